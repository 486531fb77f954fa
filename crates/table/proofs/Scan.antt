-- Reading a lent table: a scan of the edges selects, and a step to a child keeps what is said.
-- Assumes nothing.
use mathlib.Core.Path.{◌≡◌, refl, sym, ◌∙◌, ap}
use mathlib.Core.Bool.{true, not, cond}
use mathlib.Core.Logic.{⊎_elim}
use mathlib.Core.List.{List}
use Prim.Native.Nat.{ℕ, zero, suc, ◌+◌, ◌-◌, ◌*◌, ◌/◌, ◌%◌, ◌≤◌, ◌<◌, ◌^◌}
use native.Mathlib.Omega.{arith}
use native.Mathlib.Nat.{eq-or-lt_of_le}
use borrow.Author.Tests.{lt-ltb, le-ltb}
use lib.Dec.{eqb, ltb}
use lib.ListN.{length}
use lib.IntN.{ℤ}
use Rattle.diagram.specs.Pieces.{last, cut, select}
use Rattle.diagram.specs.Table.{Table, Assignment, signed, value}
use Rattle.ids.specs.Id.{TRUE, sign, under}
use Rattle.table.specs.Layout.{var_at, count_at, first_at, kid_at, cut_at, cut_position, Store}
use Rattle.table.specs.Lent.{KidsStand}
use Rattle.table.specs.Held.{edges_from, edges_at, node_at, held}
use Rattle.table.specs.Told.{bit}
use Rattle.table.specs.Checking.{spots, Next}
use Rattle.diagram.proofs.Lookup as lookup

module _ (children : List ℕ) (cuts : List ℤ) (p : ℕ) where
  stop : (i m : ℕ) → p < cut_position (cut_at cuts i) → select (edges_from children cuts i (suc m)) p ≡ kid_at children i
  unfolding edges_from
  stop i m h = rw (lt-ltb p (cut_position (cut_at cuts i)) h)

  pass : (i m : ℕ) → cut_position (cut_at cuts i) ≤ p → select (edges_from children cuts i (suc m)) p ≡ select (edges_from children cuts (suc i) m) p
  unfolding edges_from
  pass i m h = rw (le-ltb p (cut_position (cut_at cuts i)) h)

  -- the edges from j on, of those from e on with `end` cuts
  abbrev pub rest : ℕ → ℕ → ℕ → ℕ
  rest e end j = select (edges_from children cuts (e + j) (end - j)) p

  pub rest_stop : (e end j : ℕ) → j < end → p < cut_position (cut_at cuts (e + j)) → rest e end j ≡ kid_at children (e + j)
  rest_stop e end j l h = let a : end - j ≡ suc (end - (j + 1)) = omega arith in ap (λ (m : ℕ). select (edges_from children cuts (e + j) m) p) a ∙ stop (e + j) (end - (j + 1)) h

  pub rest_pass : (e end j : ℕ) → j < end → cut_position (cut_at cuts (e + j)) ≤ p → rest e end j ≡ rest e end (j + 1)
  rest_pass e end j l h =
      let a : end - j ≡ suc (end - (j + 1)) = omega arith in
      let b : suc (e + j) ≡ e + (j + 1) = omega arith in
      ap (λ (m : ℕ). select (edges_from children cuts (e + j) m) p) a ∙ (pass (e + j) (end - (j + 1)) h ∙ ap (λ (i : ℕ). select (edges_from children cuts i (end - (j + 1))) p) b)

  pub rest_end : (e end j : ℕ) → j ≡ end → rest e end j ≡ kid_at children (e + end)
  unfolding edges_from
  rest_end e end j q = let a : end - j ≡ 0 = omega arith in let b : e + j ≡ e + end = omega arith in λ i. select (edges_from children cuts (b i) (a i)) p

module _ (children : List ℕ) (cuts : List ℤ) (places : List ℤ) (bools : ℕ) where
  pub next_range : (v e n : ℕ) → v < 32 → select (edges_at children cuts v e n) (spots places bools v) ≡ select (edges_from children cuts e (n - 1)) (cut_position (cut_at places v))
  unfolding edges_at spots
  next_range v e n h = rw (lt-ltb v 32 h)

  high : (v e n q : ℕ) → 32 ≤ v → 1 - q ≡ 0 → select (cond (ltb v 32) (edges_from children cuts e (n - 1)) (cut (kid_at children e) 1 (last (kid_at children (e + 1))))) (cond (ltb v 32) (cut_position (cut_at places v)) (1 - q)) ≡ kid_at children e
  high v e n q h z = rw (le-ltb v 32 h, z)

  low : (v e n q : ℕ) → 32 ≤ v → 1 - q ≡ 1 → select (cond (ltb v 32) (edges_from children cuts e (n - 1)) (cut (kid_at children e) 1 (last (kid_at children (e + 1))))) (cond (ltb v 32) (cut_position (cut_at places v)) (1 - q)) ≡ kid_at children (e + 1)
  low v e n q h z = rw (le-ltb v 32 h, z)

  pub next_high : (v e n : ℕ) → 32 ≤ v → bit bools (v - 32) ≡ 1 → select (edges_at children cuts v e n) (spots places bools v) ≡ kid_at children e
  unfolding edges_at spots
  next_high v e n h b = high v e n (bit bools (v - 32)) h (omega arith)

  pub next_low : (v e n : ℕ) → 32 ≤ v → (bit bools (v - 32) ≡ 1 → ⊥) → select (edges_at children cuts v e n) (spots places bools v) ≡ kid_at children (e + 1)
  unfolding edges_at spots
  next_low v e n h b = low v e n (bit bools (v - 32)) h (zero_bit (bools / 2 ^ (v - 32)) b)
    where
      zero_bit : (x : ℕ) → (x % 2 ≡ 1 → ⊥) → 1 - x % 2 ≡ 1
      zero_bit x f = ⊎_elim (λ e. absurd (f e)) (λ l. omega arith) (eq-or-lt_of_le (let a : x % 2 ≤ 1 = omega arith in a))

  pub next_at : (α : Assignment) {v e n v' e' n' : ℕ} → v ≡ v' → e ≡ e' → n ≡ n' → select (edges_at children cuts v e n) (α v) ≡ select (edges_at children cuts v' e' n') (α v')
  next_at α p q r = λ i. select (edges_at children cuts (p i) (q i) (r i)) (α (p i))

pub kid_earlier : {nodes children : List ℕ} {n v e count : ℕ} → KidsStand nodes children n v e count → (j : ℕ) → j < count → kid_at children (e + j) < n * 2 + 2
kid_earlier k j l = ⊎_elim (λ h. omega arith) (λ h. omega (arith, h.0)) (k.stand j l)

module _ (st : Store) where
  abbrev table : ℕ → Table
  table n = held st n

  pub table_length : (n : ℕ) → length (table n) ≡ n
  unfolding held
  table_length zero = refl
  table_length (suc n) = ap suc (table_length n)

  -- a longer table says the same of its older ids
  pub value_longer : (α : Assignment) (n k id : ℕ) → id / 2 ≤ n → value (table (k + n)) α id ≡ value (table n) α id
  unfolding held
  value_longer α n zero id h = let a : 0 + n ≡ n = omega arith in ap (λ (m : ℕ). value (table m) α id) a
  value_longer α n (suc k) id h =
      let a : suc k + n ≡ suc (k + n) = omega arith in
      let l = table_length (k + n) in
      ap (λ (m : ℕ). value (table m) α id) a ∙ (lookup.value_old (node_at st (k + n)) (table (k + n)) α id (omega arith) ∙ value_longer α n k id h)

  newest : (α : Assignment) (n : ℕ) → lookup.truth (table (suc n)) α (suc n) ≡ value (table n) α (select (edges_at st.children st.cuts (var_at st.nodes n) (first_at st.nodes n) (count_at st.nodes n)) (α (var_at st.nodes n)))
  unfolding held
  newest α n = ap (λ (m : ℕ). lookup.truth (table (suc n)) α (suc m)) (sym (table_length n)) ∙ lookup.truth_new (node_at st n) (table n) α

  own : (α : Assignment) (id n : ℕ) → id / 2 ≡ suc n → value (table (suc n)) α id ≡ signed id (value (table n) α (select (edges_at st.children st.cuts (var_at st.nodes n) (first_at st.nodes n) (count_at st.nodes n)) (α (var_at st.nodes n))))
  own α id n g = lookup.value_truth (table (suc n)) α id ∙ ap (λ (m : ℕ). signed id (lookup.truth (table (suc n)) α m)) g ∙ ap (signed id) (newest α n)

  -- an id of node n says what the child does, by its sign
  pub value_child : (α : Assignment) (u id c : ℕ) → 2 ≤ id → id / 2 ≤ u → Next st α (id / 2 - 1) c → value (table u) α id ≡ signed id (value (table u) α c)
  value_child α u id c a b x =
      let n = id / 2 - 1 in
      let k = u - (id / 2) in
      let e : k + suc n ≡ u = omega arith in
      let f : (k + 1) + n ≡ u = omega arith in
      let g : id / 2 ≡ suc n = omega arith in
      let early : c / 2 ≤ n = omega (arith, x.earlier) in
      ap (λ (m : ℕ). value (table m) α id) (sym e) ∙ (value_longer α (suc n) k id (omega arith)
      ∙ (own α id n g ∙ ap (signed id) (ap (value (table n) α) (sym x.right) ∙ (sym (value_longer α n (k + 1) c early) ∙ ap (λ (m : ℕ). value (table m) α c) f))))

  -- one step of the walk: from an id to the child that the reading chooses, seen from that id
  pub step : {α : Assignment} {u id w c r : ℕ} → w ≡ id → 2 ≤ id → id / 2 ≤ u → Next st α (w / 2 - 1) c → r ≡ under (sign id) c → value (table u) α id ≡ value (table u) α r
  step {α} {u} {id} {w} {c} {r} e a b x q = value_child α u id c a b (rw e at x) ∙ sym (ap (value (table u) α) q ∙ lookup.value_under (table u) α (sign id) c)

  value_true : (α : Assignment) (u : ℕ) → value (table u) α 0 ≡ true
  unfolding held value
  value_true α zero = refl
  value_true α (suc u) = let l = table_length u in lookup.value_old (node_at st u) (table u) α 0 (omega arith) ∙ value_true α u

  -- the end of the walk
  pub value_terminal : (α : Assignment) (u id : ℕ) → id < 2 → value (table u) α id ≡ eqb id TRUE
  value_terminal α u zero h = value_true α u
  value_terminal α u (suc zero) h = lookup.value_flip (table u) α 0 ∙ ap not (value_true α u)
  value_terminal α u (suc (suc n)) h = absurd (omega arith)
