-- A sound table with one record more, which keeps the rules and is the same as none before, is sound. Assumes nothing.
use mathlib.Core.Path.{◌≡◌, sym, ◌∙◌, ap, subst}
use mathlib.Core.Logic.{◌⊎◌, inl, inr}
use mathlib.Core.List.{List, ◌∷◌}
use Prim.Native.Nat.{ℕ, suc, ◌+◌, ◌*◌, ◌≤◌, ◌<◌}
use native.Mathlib.Omega.{arith}
use native.Mathlib.Nat.{eq-or-lt_of_le}
use lib.ListN.{get_or}
use Rattle.chains.specs.Row as row
use Rattle.chains.proofs.Rows.{stored_spliced}
use Rattle.chains.proofs.Inserted.{inserted}
use Rattle.diagram.specs.Table.{Table}
use Rattle.table.specs.Layout.{count_at, room, start, Store}
use Rattle.table.specs.Indexed.{hash_at, bucket_at, key_at, precedes, Indexed}
use Rattle.table.specs.Lent.{Rules, SameRecord, SoundLent}
use Rattle.table.specs.Held.{node_at, held}
use Rattle.making.specs.Growing.{MoreWords, NodeIn}
use Rattle.making.specs.Seeking.{Place}
use Rattle.making.proofs.Frames as frames

module _ {u e : ℕ} {st : Store} {index : List ℕ} {st' : Store}
    (s : SoundLent st index u) (at_end : e ≡ start st.nodes u) (more : MoreWords u e (count_at st'.nodes u) st st') where
  ends : start st.nodes u ≤ e
  ends = omega (arith, at_end)

  -- the table that is held gains the new node
  pub held_grown : held st' (suc u) ≡ node_at st' u ∷ held st u
  unfolding held
  held_grown = ap (λ (t : Table). node_at st' u ∷ t) (frames.held_agrees (frames.more_agrees more) s.records.rules ends u (omega arith))

  -- the edges of the new table end where those of the new node do
  pub start_grown : start st'.nodes (suc u) ≡ e + count_at st'.nodes u
  unfolding start
  start_grown = omega (arith, frames.start_agrees (frames.more_agrees more) u (omega arith), at_end)

  room_same : room st'.nodes ≡ room st.nodes
  room_same = frames.room_agrees more

  known : (n : ℕ) → n < suc u → (n ≡ u) ⊎ (n < u)
  known n l = eq-or-lt_of_le (let a : n ≤ u = omega arith in a)

  module _ (fits : suc u ≤ room st.nodes) where
    -- the index has the new node at its place
    module _ {p q : ℕ} {index' : List ℕ} (place : Place st u (bucket_at st' u) (key_at st' u) p q) (put : NodeIn (room st.nodes) u (bucket_at st' u) p q (hash_at st' u) index index') where
      chains : row.Indexed (precedes st') (bucket_at st') (suc u) (room st.nodes) (row.words index')
      chains = inserted (key_at st) (key_at st') (bucket_at st) (bucket_at st') u (frames.key_agrees (frames.more_agrees more) s.records.rules ends)
          (λ n l. frames.bucket_agrees (frames.more_agrees more) s.records.rules ends n l more.long) s.indexed.chains (omega arith) place
          (stored_spliced (frames.bucket_in more (omega arith)) (omega arith) place.lower.within place.upper.within put.chained)

      hash : (n : ℕ) → (n ≡ u) ⊎ (n < u) → get_or index' (room st.nodes * 3 + n) 0 ≡ hash_at st' n
      hash n (inl e) = subst (λ (m : ℕ). get_or index' (room st.nodes * 3 + m) 0 ≡ hash_at st' m) (sym e) put.hash
      hash n (inr l) = put.other_hash n (λ e. omega arith) ∙ (s.indexed.hashes n l ∙ sym (frames.hash_at_agrees (frames.more_agrees more) s.records.rules ends n l))

      pub indexed_grown : Indexed st' index' (suc u)
      indexed_grown = record {
        chains = subst (λ (r : ℕ). row.Indexed (precedes st') (bucket_at st') (suc u) r (row.words index')) (sym room_same) chains;
        hashes = λ n l. subst (λ (r : ℕ). get_or index' (r * 3 + n) 0 ≡ hash_at st' n) (sym room_same) (hash n (known n l));
        no_hash = λ n g. subst (λ (r : ℕ). get_or index' (r * 3 + n) 0 ≡ 0) (sym room_same) (put.other_hash n (λ e. omega arith) ∙ s.indexed.no_hash n (omega arith));
      }

    module _ (new : Rules st' u) (fresh : (m : ℕ) → m < u → SameRecord st' m u → ⊥) where
      rule : (n : ℕ) → (n ≡ u) ⊎ (n < u) → Rules st' n
      rule n (inl q) = subst (Rules st') (sym q) new
      rule n (inr l) = frames.rules_agree (frames.more_agrees more) s.records.rules ends n l more.wide

      single : (m n : ℕ) → m < n → (n ≡ u) ⊎ (n < u) → SameRecord st' m n → ⊥
      single m n h (inl q) = λ x. fresh m (omega arith) (subst (SameRecord st' m) q x)
      single m n h (inr l) = λ x. s.records.single m n h l (frames.same_record_agrees (frames.more_agrees more) s.records.rules ends m n (omega arith) l x)

      -- a sound table grows by a record that keeps the rules and is new
      pub sound_grown : {index' : List ℕ} → Indexed st' index' (suc u) → SoundLent st' index' (suc u)
      sound_grown i = record {
        records = record {
          fits = omega (arith, room_same, fits);
          rules = λ n l. rule n (known n l);
          single = λ m n h l. single m n h (known n l);
          no_node = λ i h. more.word i (inr (omega arith)) ∙ s.records.no_node i (omega arith);
          no_child = λ i h. more.child i (inr (omega (arith, start_grown))) ∙ s.records.no_child i (omega (arith, start_grown, at_end));
          no_cut = λ i h. more.cut i (inr (omega (arith, start_grown))) ∙ s.records.no_cut i (omega (arith, start_grown, at_end));
        };
        indexed = i;
      }
