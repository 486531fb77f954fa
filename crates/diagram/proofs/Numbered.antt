-- A run of pieces by its numbers. Assumes nothing.
use mathlib.Core.Path.{◌≡◌, refl, ◌∙◌, ap, subst}
use Prim.Native.Nat.{ℕ, zero, suc, ◌+◌, ◌≤◌, ◌<◌}
use native.Mathlib.Omega.{arith}
use Rattle.diagram.specs.Pieces.{last, cut}
use Rattle.diagram.specs.Shape.{first, count, Each, run}
use Rattle.diagram.specs.Cofactor.{map}

module _ {A : Type 0} (c : ℕ → A) (k : ℕ → ℕ) where
  -- how many pieces it has, and the first of them
  pub count_run : (i m : ℕ) → count (run c k i m) ≡ suc m
  unfolding run
  count_run i zero = refl
  count_run i (suc m) = ap suc (count_run (suc i) m)

  pub first_run : (i m : ℕ) → first (run c k i m) ≡ c i
  unfolding run
  first_run i zero = refl
  first_run i (suc m) = refl

  -- what each of its values has
  each_from : (P : A → Type 0) (i m : ℕ) → Each P (run c k i m) → (j : ℕ) → j ≤ m → P (c (i + j))
  unfolding run
  each_from P i zero h j l = let a : i ≡ i + j = omega arith in subst (λ (x : ℕ). P (c x)) a h
  each_from P i (suc m) h zero l = let a : i ≡ i + 0 = omega arith in subst (λ (x : ℕ). P (c x)) a h.0
  each_from P i (suc m) h (suc j) l = let a : suc i + j ≡ i + suc j = omega arith in subst (λ (x : ℕ). P (c x)) a (each_from P (suc i) m h.1 j (omega arith))

  pub each_run : (P : A → Type 0) (m : ℕ) → Each P (run c k 0 m) → (j : ℕ) → j ≤ m → P (c j)
  each_run P m h j l = let a : 0 + j ≡ j = omega arith in subst (λ (x : ℕ). P (c x)) a (each_from P 0 m h j l)

-- runs with equal values and cuts are equal, wherever they start
pub run_shift : {A : Type 0} (c d : ℕ → A) (k l : ℕ → ℕ) (a b m : ℕ) → ((j : ℕ) → j ≤ m → c (a + j) ≡ d (b + j)) → ((j : ℕ) → j < m → k (a + j) ≡ l (b + j)) → run c k a m ≡ run d l b m
unfolding run
run_shift c d k l a b zero h g =
    let x : a ≡ a + 0 = omega arith in
    let y : b + 0 ≡ b = omega arith in
    ap last (ap c x ∙ h 0 (omega arith) ∙ ap d y)
run_shift c d k l a b (suc m) h g =
    let x : a ≡ a + 0 = omega arith in
    let y : b + 0 ≡ b = omega arith in
    let p = ap c x ∙ h 0 (omega arith) ∙ ap d y in
    let q = ap k x ∙ g 0 (omega arith) ∙ ap l y in
    let r = run_shift c d k l (suc a) (suc b) m (λ j t. ap c (left j) ∙ h (suc j) (omega arith) ∙ ap d (right j)) (λ j t. ap k (left j) ∙ g (suc j) (omega arith) ∙ ap l (right j)) in
    λ i. cut (p i) (q i) (r i)
  where
    left : (j : ℕ) → suc a + j ≡ a + suc j
    left j = omega arith

    right : (j : ℕ) → b + suc j ≡ suc b + j
    right j = omega arith

-- a run seen through a function
pub map_run : {A B : Type 0} (f : A → B) (c : ℕ → A) (k : ℕ → ℕ) (i m : ℕ) → map f (run c k i m) ≡ run (λ j. f (c j)) k i m
unfolding run map
map_run f c k i zero = refl
map_run f c k i (suc m) = ap (cut (f (c i)) (k i)) (map_run f c k (suc i) m)
