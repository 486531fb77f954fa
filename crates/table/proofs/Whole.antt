-- A table is sound exactly when each of its records keeps the rules, each node is linked, and the rest holds.
-- Assumes nothing.
use mathlib.Core.Path.{◌≡◌, refl, sym, ◌∙◌, ap, subst}
use mathlib.Core.Bool.{Bool, true, false}
use Rattle.std.specs.Prelude.{Option, Some, None, Decides}
use Rattle.std.specs.Option.{option_eq}
use Rattle.std.proofs.lemmas.Bool.Decides.{Decides-at, Decides-eqb}
use lib.Dec.{eqb}
use lib.ListN.{get_or}
use mathlib.Core.Logic.{◌⊎◌, ⊎_elim}
use mathlib.Core.List.{List}
use Prim.Native.Nat.{ℕ, zero, suc, ◌+◌, ◌-◌, ◌*◌, ◌/◌, ◌≤◌, ◌<◌}
use native.Mathlib.Omega.{arith}
use lib.IntN.{ℤ}
use Rattle.chains.specs.Before.{Strict}
use Rattle.chains.specs.Row.{words}
use Rattle.chains.specs.Row as row
use Rattle.chains.proofs.Lexical.{by_strict, by_level, key_tells, key_same}
use Rattle.chains.proofs.Checked.{local_sorted, sorted_linked, sorted_local, sorted_differ}
use Rattle.chains.proofs.Rows.{row_tally}
use Rattle.table.specs.Layout.{var_at, count_at, first_at, room, start, cut_position, Store}
use Rattle.table.specs.Indexed.{hash_to, hash_at, bucket_at, key_at, precedes}
use Rattle.table.specs.Lent.{SameRun, SameRecord, SoundLent}
use Rattle.table.specs.Checking.{keeps, hash_in, Keeps, Judges, sound, Recorded, LinkedAt, Rest}
use Rattle.table.proofs.Laws as laws
use Rattle.table.proofs.Laws.{Order, less, equal, more, lt_eq_or_gt}

-- The same edges have the same hash, and the same nodes the same key and bucket.
hash_same : (children : List ℕ) (cuts : List ℤ) (v a b n j : ℕ) → j ≤ n → SameRun children cuts a b n → hash_to children cuts v a j ≡ hash_to children cuts v b j
unfolding hash_to
hash_same children cuts v a b n zero l s = refl
hash_same children cuts v a b n (suc j) l s = laws.mix_at_equal (hash_same children cuts v a b n j (omega arith) s) (s.child j (omega arith)) (ap cut_position (s.cut j (omega arith)))

-- The n records that were checked, with e edges: where they end the table ends.
pub record Ended (st : Store) (index : List ℕ) (n e : ℕ) : Type 0 where
  pub fits : n ≤ room st.nodes
  pub all : (m : ℕ) → m < n → Recorded st index m
  pub at : e ≡ start st.nodes n
  pub ends : (n ≡ room st.nodes) ⊎ (count_at st.nodes n ≡ 0)

module _ (st : Store) where
  same_hash : (m n : ℕ) → SameRecord st m n → hash_at st m ≡ hash_at st n
  unfolding hash_at
  same_hash m n s =
      (λ i. hash_to st.children st.cuts (s.variable i) (first_at st.nodes m) (s.count i)) ∙ hash_same st.children st.cuts (var_at st.nodes n) (first_at st.nodes m) (first_at st.nodes n) (count_at st.nodes n) (count_at st.nodes n) (omega arith) s.edges

  same_key : (m n : ℕ) → SameRecord st m n → key_at st m ≡ key_at st n
  unfolding key_at
  same_key m n s = key_same _ _ _ _ _ _ _ _ _ _ (record { hash = same_hash m n s; variable = s.variable; count = s.count; edges = λ j l. (s.edges.child j (omega (arith, s.count)), ap cut_position (s.edges.cut j (omega (arith, s.count)))) })

  key_bucket : (m n : ℕ) → key_at st m ≡ key_at st n → bucket_at st m ≡ bucket_at st n
  unfolding key_at bucket_at
  key_bucket m n e = ap (λ (h : ℕ). h * room st.nodes / 4294967296) (key_tells _ _ _ _ _ _ _ _ _ _ e).hash

  pub hash_at_lem : (n : ℕ) {h : ℕ} → h ≡ hash_to st.children st.cuts (var_at st.nodes n) (first_at st.nodes n) (count_at st.nodes n) → h ≡ hash_at st n
  unfolding hash_at
  hash_at_lem n e = e

  pub hash_at_lt : (n : ℕ) → hash_at st n < 4294967296
  unfolding hash_at
  hash_at_lt n = laws.hash_lt st.children st.cuts (var_at st.nodes n) (first_at st.nodes n) (count_at st.nodes n)

  pub bucket_lt : (n : ℕ) → 0 < room st.nodes → bucket_at st n < room st.nodes
  unfolding bucket_at
  bucket_lt n h = laws.scaled_lt _ (room st.nodes) (hash_at_lt n) h

  pub bucket_hash : (n : ℕ) {h : ℕ} → h ≡ hash_at st n → h * room st.nodes / 4294967296 ≡ bucket_at st n
  unfolding bucket_at
  bucket_hash n e = ap (λ (x : ℕ). x * room st.nodes / 4294967296) e

  strict : Strict (precedes st)
  strict = by_strict (key_at st)

  module _ (index : List ℕ) where
    abbrev Chained : ℕ → Type 0
    Chained u = row.Indexed (precedes st) (bucket_at st) u (room st.nodes) (words index)

    inside : (u : ℕ) → u ≤ room st.nodes → (n : ℕ) → n < u → bucket_at st n < room st.nodes
    inside u h n l = bucket_lt n (omega arith)

    -- no two records of sorted chains are the same
    apart : (u : ℕ) → u ≤ room st.nodes → Chained u → (m n : ℕ) → m < n → n < u → SameRecord st m n → ⊥
    apart u h t m n k l s = let e = sorted_differ strict (inside u h) t (key_at st) key_bucket (by_level (key_at st)) m n (omega arith) l (same_key m n s) in omega arith

    -- a record of a sound table is recorded
    sound_recorded : (u n : ℕ) → SoundLent st index u → n < u → Recorded st index n
    sound_recorded u n s l = record { rules = s.records.rules n l; hashed = s.indexed.hashes n l }

    -- and what the code compares tells whether it is
    pub recorded : (n : ℕ) (o : Option ℕ) {w : ℕ} {b : Bool} → Keeps st n (keeps o) (hash_in o) → w ≡ get_or index (room st.nodes * 3 + n) 0 → b ≡ option_eq eqb o (Some w) → Decides b (Recorded st index n)
    recorded n None {w} {b} k q e = Decides-at b false e (laws.fails (λ p. laws.decided_false k.decides refl p.rules))
    recorded n (Some h) {w} {b} k q e = Decides-at b (eqb h w) e (laws.to (Decides-eqb h w)
        (λ d. record { rules = k.decides.0 refl; hashed = sym q ∙ (sym d ∙ hash_at_lem n (k.hashed refl)) })
        (λ p. hash_at_lem n (k.hashed refl) ∙ (sym p.hashed ∙ sym q)))

    -- a used record that breaks a rule, or has another hash
    pub refused : (n : ℕ) → (count_at st.nodes n ≡ 0 → ⊥) → (Recorded st index n → ⊥) → (u : ℕ) → SoundLent st index u → ⊥
    refused n some bad u s = ⊎_elim (λ l. bad (sound_recorded u n s l)) (λ g. some (s.records.no_node (n * 4 + 1) (omega arith))) (laws.lt_or_le n u)

    module _ (n e : ℕ) (d : Ended st index n e) where
      chained : ((m : ℕ) → m < n → LinkedAt st index n m) → Rest st index n e → Chained n
      chained k r = local_sorted strict (inside n d.fits) (record {
        linked = k;
        full = sym (row_tally (words index) (room st.nodes) n) ∙ r.full;
        no_next = λ m a b. r.no_next (room st.nodes + m) (omega arith) (omega arith);
        no_prev = λ m a b. r.no_prev (room st.nodes * 2 + m) (omega arith) (omega arith);
      })

      sums_up : ((m : ℕ) → m < n → LinkedAt st index n m) → Rest st index n e → SoundLent st index n
      sums_up k r = record {
        records = record {
          fits = d.fits;
          rules = λ m l. (d.all m l).rules;
          single = apart n d.fits (chained k r);
          no_node = r.no_node;
          no_child = λ i h. r.no_child i (omega arith);
          no_cut = λ i h. r.no_cut i (omega arith);
        };
        indexed = record {
          chains = chained k r;
          hashes = λ m l. (d.all m l).hashed;
          no_hash = λ m l. r.no_hash (room st.nodes * 3 + m) (omega arith);
        };
      }

      links_hold : SoundLent st index n → (m : ℕ) → m < n → LinkedAt st index n m
      links_hold s = sorted_linked strict (inside n d.fits) s.indexed.chains

      falls_apart : SoundLent st index n → Rest st index n e
      falls_apart s = record {
        no_node = s.records.no_node;
        no_child = λ i h. s.records.no_child i (omega arith);
        no_cut = λ i h. s.records.no_cut i (omega arith);
        no_next = λ i h l. at_row (room st.nodes) i (omega arith) (s.indexed.chains.no_next (i - room st.nodes) (omega arith) (omega arith));
        no_prev = λ i h l. at_row (room st.nodes * 2) i (omega arith) (s.indexed.chains.no_prev (i - room st.nodes * 2) (omega arith) (omega arith));
        no_hash = λ i h. at_row (room st.nodes * 3) i (omega arith) (s.indexed.no_hash (i - room st.nodes * 3) (omega arith));
        full = row_tally (words index) (room st.nodes) n ∙ (sorted_local strict (inside n d.fits) s.indexed.chains).full;
      }
        where
          at_row : (k i : ℕ) → k ≤ i → words index (k + (i - k)) ≡ 0 → words index i ≡ 0
          at_row k i h e = laws.get_d_at_equal index i (k + (i - k)) (omega arith) ∙ e

      -- where the records end the table ends, whatever number of nodes it is said to have
      same_end : (u : ℕ) → SoundLent st index u → n ≡ u
      same_end u s = go (lt_eq_or_gt n u)
        where
          go : Order n u → n ≡ u
          go (equal q) = q
          go (less q) = absurd (⊎_elim (λ x. omega (arith, s.records.fits)) (λ x. omega (arith, (s.records.rules n q).many)) d.ends)
          go (more q) = absurd (omega (arith, (d.all u q).rules.many, s.records.no_node (u * 4 + 1) (omega arith)))

      -- a node that is not linked
      pub unlinked : (((m : ℕ) → m < n → LinkedAt st index n m) → ⊥) → (u : ℕ) → SoundLent st index u → ⊥
      unlinked bad u s = bad (links_hold (subst (SoundLent st index) (sym (same_end u s)) s))

      -- and otherwise the rest decides
      pub judged : ((m : ℕ) → m < n → LinkedAt st index n m) → Rest st index n e → Judges st index n e true
      judged k r = sound (sums_up k r) d.at

      pub left_over : (Rest st index n e → ⊥) → (u : ℕ) → SoundLent st index u → ⊥
      left_over bad u s = bad (falls_apart (subst (SoundLent st index) (sym (same_end u s)) s))
