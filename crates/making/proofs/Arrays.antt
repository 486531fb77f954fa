-- Pieces by their numbers, and what a node under construction has for cuts. Assumes nothing.
use mathlib.Core.Path.{◌≡◌, refl, sym, ◌∙◌, ap, subst}
use mathlib.Core.Logic.{⊎_elim}
use Prim.Native.Nat.{ℕ, zero, suc, ◌+◌, ◌-◌, ◌≤◌, ◌<◌}
use native.Mathlib.Omega.{arith}
use Rattle.ranges.specs.Line.{top}
use Rattle.diagram.specs.Shape.{Reduced, run}
use Rattle.diagram.specs.Table.{first_boolean, top_of}
use Rattle.diagram.proofs.Numbered.{first_run, run_shift}
use Rattle.diagram.proofs.Readings.{range_top, bool_top}
use Rattle.table.proofs.Bridge.{kid_of, cut_of}
use Rattle.table.proofs.Laws.{lt_or_le}
use Rattle.making.specs.declared.edges.Edges as built
use Rattle.making.specs.Building.{child_in, cut_in, pieces_of}

module _ (c k : ℕ → ℕ) where
  -- the value and the cut of piece j of a run
  pub kid_run : (i m j : ℕ) → j ≤ m → kid_of (run c k i m) j ≡ c (i + j)
  unfolding run kid_of
  kid_run i zero zero l = let a : i ≡ i + 0 = omega arith in ap c a
  kid_run i zero (suc j) l = absurd (omega arith)
  kid_run i (suc m) zero l = let a : i ≡ i + 0 = omega arith in ap c a
  kid_run i (suc m) (suc j) l = let a : suc i + j ≡ i + suc j = omega arith in kid_run (suc i) m j (omega arith) ∙ ap c a

  pub cut_run : (i m j : ℕ) → j < m → cut_of (run c k i m) j ≡ k (i + j)
  unfolding run cut_of
  cut_run i zero j l = absurd (omega arith)
  cut_run i (suc m) zero l = let a : i ≡ i + 0 = omega arith in ap k a
  cut_run i (suc m) (suc j) l = let a : suc i + j ≡ i + suc j = omega arith in cut_run (suc i) m j (omega arith) ∙ ap k a

-- Each cut of reduced pieces: above the one before it, or the lower end, within the top, and between children that differ.
abbrev pub cut_before : ℕ → (ℕ → ℕ) → ℕ → ℕ
cut_before b k zero = b
cut_before b k (suc j) = k j

pub record Step (b t : ℕ) (c k : ℕ → ℕ) (j : ℕ) : Type 0 where
  pub above : cut_before b k j < k j
  pub within : k j ≤ t
  pub differ : c j ≡ c (j + 1) → ⊥

step_of : (b t : ℕ) (c k : ℕ → ℕ) (m : ℕ) → Reduced b t (run c k 0 m) → (j : ℕ) → j < m → Step b t c k j
unfolding run
step_of b t c k zero r j l = absurd (omega arith)
step_of b t c k (suc m) r zero l = record { above = r.0; within = r.1; differ = λ q. r.2 (q ∙ sym (first_run c k 1 m)) }
step_of b t c k (suc m) r (suc j) l = shift j (step_of (k 0) t (λ i. c (suc i)) (λ i. k (suc i)) m (subst (Reduced (k 0) t) rest r.3) j (omega arith))
  where
    rest : run c k 1 m ≡ run (λ i. c (suc i)) (λ i. k (suc i)) 0 m
    rest = run_shift c (λ i. c (suc i)) k (λ i. k (suc i)) 1 0 m (λ i h. ap c (let a : 1 + i ≡ suc (0 + i) = omega arith in a)) (λ i h. ap k (let a : 1 + i ≡ suc (0 + i) = omega arith in a))

    before : (i : ℕ) → cut_before (k 0) (λ n. k (suc n)) i ≡ k i
    before zero = refl
    before (suc i) = refl

    shift : (i : ℕ) → Step (k 0) t (λ n. c (suc n)) (λ n. k (suc n)) i → Step b t c k (suc i)
    shift i s = record { above = omega (arith, s.above, before i); within = s.within; differ = λ q. s.differ (q ∙ ap c (let a : suc i + 1 ≡ suc (i + 1) = omega arith in a)) }

top_most : (v : ℕ) → top_of v ≤ top
top_most v = ⊎_elim (λ h. omega (arith, range_top v h)) (λ h. omega (arith, bool_top v h)) (lt_or_le v first_boolean)

-- The cuts of a node under construction are at most at the top; a boolean one has two edges, and its cut is 1.
module _ (v : ℕ) (es : built.Edges) (red : Reduced 0 (top_of v) (pieces_of es)) where
  pub step_in : (j : ℕ) → j + 1 < es.len → Step 0 (top_of v) (child_in es) (cut_in es) j
  step_in j l = step_of 0 (top_of v) (child_in es) (cut_in es) (es.len - 1) red j (omega arith)

  pub cut_most : (j : ℕ) → j + 1 < es.len → cut_in es j ≤ top
  cut_most j l = omega (arith, (step_in j l).within, top_most v)

  pub cut_small : (j : ℕ) → j + 1 < es.len → cut_in es j < 8589934593
  cut_small j l = omega (arith, cut_most j l)

  pub bool_two : first_boolean ≤ v → 2 ≤ es.len → es.len ≡ 2
  bool_two h m = ⊎_elim (λ l. absurd (omega (arith, (step_in 0 (omega arith)).above, (step_in 1 l).above, (step_in 1 l).within, bool_top v h))) (λ g. omega arith) (lt_or_le 2 es.len)

  pub bool_cut : first_boolean ≤ v → 2 ≤ es.len → cut_in es 0 ≡ 1
  bool_cut h m = omega (arith, (step_in 0 (omega arith)).above, (step_in 0 (omega arith)).within, bool_top v h)
