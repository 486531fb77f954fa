-- A sound table without its last record is sound. Assumes nothing.
use mathlib.Core.Path.{◌≡◌, sym, ◌∙◌, ap, subst}
use mathlib.Core.Logic.{inr, ⊎_elim}
use mathlib.Core.List.{List}
use Prim.Native.Nat.{ℕ, suc, ◌+◌, ◌*◌, ◌≤◌, ◌<◌}
use native.Mathlib.Omega.{arith}
use native.Mathlib.Nat.{eq-or-lt_of_le}
use lib.ListN.{get_or}
use lib.IntN.{pos}
use Rattle.chains.specs.Row as row
use Rattle.chains.proofs.Firsts.{strict_back}
use Rattle.chains.proofs.Lexical.{by_strict}
use Rattle.chains.proofs.Rows.{stored_spliced}
use Rattle.chains.proofs.Stores.{not_itself}
use Rattle.chains.proofs.Inserted.{deleted}
use Rattle.table.specs.Layout.{count_at, first_at, kid_at, cut_at, room, start, Store}
use Rattle.table.specs.Indexed.{hash_at, bucket_at, key_at, precedes, Indexed}
use Rattle.table.specs.Lent.{Rules, SoundLent}
use Rattle.table.proofs.Laws as laws
use Rattle.table.proofs.Whole.{bucket_lt}
use Rattle.making.specs.Growing.{MoreWords, NodeOut}
use Rattle.making.proofs.Frames as frames

-- The words of the last node lead to nodes before it.
pub prev_le : {st : Store} {index : List ℕ} {u : ℕ} → SoundLent st index (suc u) → row.prev_of (room st.nodes) (row.words index) u ≤ u
prev_le {st} s = not_itself (strict_back (by_strict (key_at st))) s.indexed.chains.prevs

pub next_le : {st : Store} {index : List ℕ} {u : ℕ} → SoundLent st index (suc u) → row.next_of (room st.nodes) (row.words index) u ≤ u
next_le {st} s = not_itself (by_strict (key_at st)) s.indexed.chains.nexts

module _ {u e : ℕ} {st : Store} {st' : Store} {index' : List ℕ}
    (t : SoundLent st' index' (suc u)) (at_last : e ≡ first_at st'.nodes u) (more : MoreWords u e (count_at st'.nodes u) st st') where
  agree : frames.Agree u e st' st
  agree = frames.agree_sym (frames.more_agrees more)

  old : (n : ℕ) → n < u → Rules st' n
  old n l = t.records.rules n (omega arith)

  starts : start st'.nodes u ≡ e
  starts = sym (at_last ∙ (t.records.rules u (omega arith)).packed)

  ends : start st'.nodes u ≤ e
  ends = omega (arith, starts)

  -- the edges that are left end where those of the last node started
  pub start_shrunk : start st.nodes u ≡ e
  start_shrunk = frames.start_agrees agree u (omega arith) ∙ starts

  start_last : start st'.nodes (suc u) ≡ e + count_at st'.nodes u
  unfolding start
  start_last = omega (arith, starts)

  room_same : room st'.nodes ≡ room st.nodes
  room_same = frames.room_agrees more

  no_word : (i : ℕ) → u * 4 ≤ i → get_or st.nodes i 0 ≡ 0
  no_word i h = ⊎_elim (λ l. more.no_word i h l) (λ g. sym (more.word i (inr g)) ∙ t.records.no_node i (omega arith)) (laws.lt_or_le i (u * 4 + 4))

  no_child : (i : ℕ) → e ≤ i → kid_at st.children i ≡ 0
  no_child i h = ⊎_elim (λ l. more.no_child i h l) (λ g. sym (more.child i (inr g)) ∙ t.records.no_child i (omega (arith, start_last))) (laws.lt_or_le i (e + count_at st'.nodes u))

  no_cut : (i : ℕ) → e ≤ i → cut_at st.cuts i ≡ pos 0
  no_cut i h = ⊎_elim (λ l. more.no_cut i h l) (λ g. sym (more.cut i (inr g)) ∙ t.records.no_cut i (omega (arith, start_last))) (laws.lt_or_le i (e + count_at st'.nodes u))

  -- the index has the last node no more
  module _ {index : List ℕ} (put : NodeOut (room st'.nodes) u (bucket_at st' u) (row.prev_of (room st'.nodes) (row.words index') u) (row.next_of (room st'.nodes) (row.words index') u) index' index) where
    inside : (n : ℕ) → n < suc u → bucket_at st' n < room st'.nodes
    inside n l = bucket_lt st' n (omega (arith, t.records.fits))

    chains : row.Indexed (precedes st) (bucket_at st) u (room st'.nodes) (row.words index)
    chains = deleted (key_at st') (key_at st) (bucket_at st') (bucket_at st) u (frames.key_agrees agree old ends) (λ n l. frames.bucket_agrees agree old ends n l (sym more.long)) inside (omega (arith, t.records.fits)) t.indexed.chains
        (stored_spliced (inside u (omega arith)) (omega (arith, t.records.fits)) (prev_le t) (next_le t) put.chained)

    no_hash : (n : ℕ) → u ≤ n → get_or index (room st'.nodes * 3 + n) 0 ≡ 0
    no_hash n g = ⊎_elim (λ e. ap (λ (m : ℕ). get_or index (room st'.nodes * 3 + m) 0) (sym e) ∙ put.hash) (λ l. put.other_hash n (λ e. omega arith) ∙ t.indexed.no_hash n l) (eq-or-lt_of_le g)

    indexed_shrunk : Indexed st index u
    indexed_shrunk = record {
      chains = subst (λ (r : ℕ). row.Indexed (precedes st) (bucket_at st) u r (row.words index)) room_same chains;
      hashes = λ n l. subst (λ (r : ℕ). get_or index (r * 3 + n) 0 ≡ hash_at st n) room_same (put.other_hash n (λ e. omega arith) ∙ (t.indexed.hashes n (omega arith) ∙ sym (frames.hash_at_agrees agree old ends n l)));
      no_hash = λ n g. subst (λ (r : ℕ). get_or index (r * 3 + n) 0 ≡ 0) room_same (no_hash n g);
    }

    -- a sound table shrinks by its last record
    pub sound_shrunk : SoundLent st index u
    sound_shrunk = record {
      records = record {
        fits = omega (arith, room_same, t.records.fits);
        rules = λ n l. frames.rules_agree agree old ends n l (sym more.wide);
        single = λ m n h l x. t.records.single m n h (omega arith) (frames.same_record_agrees agree old ends m n (omega arith) l x);
        no_node = no_word;
        no_child = λ i h. no_child i (omega (arith, start_shrunk));
        no_cut = λ i h. no_cut i (omega (arith, start_shrunk));
      };
      indexed = indexed_shrunk;
    }
