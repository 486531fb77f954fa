-- Disjointness: yes exactly when no reading makes both true; for a no, an assignment that does is shown. Assumes nothing.
use mathlib.Core.Path.{◌≡◌, refl, sym, ◌∙◌, ap, ap₂}
use mathlib.Core.Bool.{Bool, true, false, cond, ◌&&◌, ◌||◌, true≢false, false≢true}
use mathlib.Core.Logic.{◌⊎◌, inl, inr}
use Prim.Native.Nat.{ℕ, zero, suc, ◌+◌, ◌≤◌, ◌<◌, min}
use native.Mathlib.Omega.{arith}
use lib.Dec.{ltb, eqb}
use borrow.Author.Tests.{eqb-true, eqb-false}
use Rattle.ids.specs.Id.{ref, flip}
use Rattle.diagram.specs.Pieces.{Pieces, last, cut, select}
use Rattle.diagram.specs.Shape.{Rising}
use Rattle.diagram.specs.Table.{variables, top_of, Table, at, Assignment, value}
use Rattle.diagram.specs.Cofactor.{edges_of, upd, Within}
use Rattle.diagram.specs.Sound.{Known, Child, Sound}
use Rattle.diagram.proofs.Lookup.{value_true, value_false}
use Rattle.diagram.proofs.Piecewise.{select_left, select_right}
use Rattle.diagram.proofs.Facts.{facts_at, var_most}
use Rattle.diagram.proofs.Cofactors.{edges_are_kids, edges_rising, edge_child, value_edge, upd_within}
use Rattle.diagram.proofs.Apart.{distinct_ids_apart}
use Rattle.diagram.proofs.Either.{either_true, neither_true}
use Rattle.algebra.specs.Overlay.{overlay}
use Rattle.algebra.specs.Disjointness.{every, disjoint_step, disjoint, is_disjoint}
use Rattle.algebra.proofs.Overlays.{select_overlay, rising_overlay}
use Rattle.algebra.proofs.Conjoining.{opposed}

-- a test of every value
every_at : {A : Type 0} (f : A → Bool) (e : Pieces A) → every f e ≡ true → (p : ℕ) → f (select e p) ≡ true
unfolding every
every_at f (last a) h p = h
every_at f (cut a k e) h p = go (f a) refl h (ltb p k) (λ i. every_at f e i p)
  where
    go : (q : Bool) → f a ≡ q → (q && every f e) ≡ true → (b : Bool) → (every f e ≡ true → f (select e p) ≡ true) → f (cond b a (select e p)) ≡ true
    go true x h true i = x
    go true x h false i = i h
    go false x h b i = absurd (false≢true h)

record Fails {A : Type 0} (f : A → Bool) (lo hi : ℕ) (e : Pieces A) : Type 0 where
  spot : ℕ
  low : lo ≤ spot
  high : spot ≤ hi
  fails : f (select e spot) ≡ false

every_fails : {A : Type 0} (f : A → Bool) (lo hi : ℕ) (e : Pieces A) → Rising lo hi e → every f e ≡ false → Fails f lo hi e
unfolding every
every_fails f lo hi (last a) r h = record { spot = lo; low = omega arith; high = r; fails = h }
every_fails f lo hi (cut a k e) r h = go (f a) refl h (every_fails f k hi e r.2)
  where
    go : (q : Bool) → f a ≡ q → (q && every f e) ≡ false → (every f e ≡ false → Fails f k hi e) → Fails f lo hi (cut a k e)
    go false x h i = record { spot = lo; low = omega arith; high = omega arith; fails = ap f (select_left a k e lo r.0) ∙ x }
    go true x h i =
        let y = i h in
        let l : k ≤ y.spot = y.low in
        record { spot = y.spot; low = omega arith; high = y.high; fails = ap f (select_right a k e y.spot l) ∙ y.fails }

-- an assignment that makes both true
pub record Both (t : Table) (x y : ℕ) : Type 0 where
  pub assigned : Assignment
  pub within : Within assigned
  pub left : value t assigned x ≡ true
  pub right : value t assigned y ≡ true

-- what a yes and a no mean
pub data Answer (t : Table) (x y : ℕ) : Bool → Type 0 where
  never : ((α : Assignment) → (value t α x && value t α y) ≡ false) → Answer t x y true
  meet : Both t x y → Answer t x y false

pub answer_yes : {t : Table} {x y : ℕ} {q : Bool} → Answer t x y q → q ≡ true → (α : Assignment) → (value t α x && value t α y) ≡ false
answer_yes (never h) e = h
answer_yes (meet b) e = absurd (false≢true e)

pub answer_no : {t : Table} {x y : ℕ} {q : Bool} → Answer t x y q → q ≡ false → Both t x y
answer_no (never h) e = absurd (true≢false e)
answer_no (meet b) e = b

-- an id that is not FALSE is true somewhere
holds_somewhere : (t : Table) → Sound t → (x : ℕ) → Known t x → (x ≡ 1 → ⊥) → Both t x x
holds_somewhere t z x h n =
    let i = distinct_ids_apart t z x 1 h (omega arith) n in
    let e = is_true (value t i.assigned x) (λ q. i.apart (q ∙ sym (value_false t i.assigned 1 refl))) in
    record { assigned = i.assigned; within = i.within; left = e; right = e }
  where
    is_true : (b : Bool) → (b ≡ false → ⊥) → b ≡ true
    is_true true h = refl
    is_true false h = absurd (h refl)

-- one is TRUE, or they are equal
agreeing : (t : Table) → Sound t → (x y : ℕ) → Known t x → Known t y → (x ≡ 1 → ⊥) → (y ≡ 1 → ⊥) → (eqb x 0 || (eqb y 0 || eqb x y)) ≡ true → Both t x y
agreeing t z x y hx hy nx ny h = go (either_true (eqb x 0) (eqb y 0 || eqb x y) h)
  where
    -- where x holds, so does y
    by_x : ((α : Assignment) → value t α x ≡ true → value t α y ≡ true) → Both t x y
    by_x f = let i = holds_somewhere t z x hx nx in record { assigned = i.assigned; within = i.within; left = i.left; right = f i.assigned i.left }

    go2 : (eqb y 0 ≡ true) ⊎ (eqb x y ≡ true) → Both t x y
    go2 (inl q) = by_x (λ α h. value_true t α y (eqb-true y 0 q))
    go2 (inr q) = by_x (λ α h. ap (value t α) (sym (eqb-true x y q)) ∙ h)

    go : (eqb x 0 ≡ true) ⊎ ((eqb y 0 || eqb x y) ≡ true) → Both t x y
    go (inl q) = let i = holds_somewhere t z y hy ny in record { assigned = i.assigned; within = i.within; left = value_true t i.assigned x (eqb-true x 0 q); right = i.left }
    go (inr q) = go2 (either_true (eqb y 0) (eqb x y) q)

-- at a variable v that neither id tests anything before, from answers for the children
module _ (t : Table) (z : Sound t) (v x y : ℕ) (hv : v < variables) (kx : Child t v x) (ky : Child t v y) (g : ℕ → ℕ → Bool)
    (rec : (c d : ℕ) → Child t (suc v) c → Child t (suc v) d → Answer t c d (g c d)) where
  abbrev ex : Pieces ℕ
  ex = edges_of t v x

  abbrev ey : Pieces ℕ
  ey = edges_of t v y

  abbrev test : ℕ × ℕ → Bool
  test p = g p.0 p.1

  at_position : (p : ℕ) → Answer t (select ex p) (select ey p) (g (select ex p) (select ey p))
  at_position p = rec (select ex p) (select ey p) (edge_child t z v x hv kx p) (edge_child t z v y hv ky p)

  test_at : (p : ℕ) → test (select (overlay ex ey) p) ≡ g (select ex p) (select ey p)
  test_at p = ap test (select_overlay ex ey p)

  every_answer : (q : Bool) → every test (overlay ex ey) ≡ q → Answer t x y q
  every_answer true e = never (λ α.
      ap₂ ◌&&◌ ((edges_are_kids t z v x hv kx).value_is α) ((edges_are_kids t z v y hv ky).value_is α) ∙ answer_yes (at_position (α v)) (sym (test_at (α v)) ∙ every_at test (overlay ex ey) e (α v)) α)
  every_answer false e =
      let w = every_fails test 0 (top_of v) (overlay ex ey) (rising_overlay 0 (top_of v) ex ey (edges_rising t z v x hv kx) (edges_rising t z v y hv ky)) e in
      let p = w.spot in
      let i = answer_no (at_position p) (sym (test_at p) ∙ w.fails) in
      meet (record {
        assigned = upd i.assigned v p;
        within = upd_within i.assigned v p i.within w.high;
        left = value_edge t z v x hv kx i.assigned p ∙ i.left;
        right = value_edge t z v y hv ky i.assigned p ∙ i.right;
      })

-- with more levels than there are variables from u on
pub answered : (n : ℕ) (t : Table) → Sound t → (u x y : ℕ) → Child t u x → Child t u y → variables < u + n → Answer t x y (disjoint n t x y)
unfolding disjoint disjoint_step
answered zero t z u x y kx ky h = absurd (omega (arith, var_most t z (ref x) kx.0, kx.1))
answered (suc n) t z u x y kx ky h = go (eqb x 1 || (eqb y 1 || eqb (flip x) y)) refl (eqb x 0 || (eqb y 0 || eqb x y)) refl (λ c d. answered n t z (suc v) c d)
  where
    v : ℕ
    v = min (at t (ref x)).var (at t (ref y)).var

    pairs : Pieces (ℕ × ℕ)
    pairs = overlay (edges_of t v x) (edges_of t v y)

    f : ℕ × ℕ → Bool
    f p = disjoint n t p.0 p.1

    go : (a : Bool) → (eqb x 1 || (eqb y 1 || eqb (flip x) y)) ≡ a → (b : Bool) → (eqb x 0 || (eqb y 0 || eqb x y)) ≡ b
        → ((c d : ℕ) → Child t (suc v) c → Child t (suc v) d → variables < suc v + n → Answer t c d (disjoint n t c d)) → Answer t x y (disjoint_step a b f pairs)
    go true ea b eb rec = never (λ α. opposed t α x y ea)
    go false ea true eb rec =
        let i = neither_true (eqb x 1) (eqb y 1 || eqb (flip x) y) ea in
        let j = neither_true (eqb y 1) (eqb (flip x) y) i.1 in
        meet (agreeing t z x y kx.0 ky.0 (eqb-false x 1 i.0) (eqb-false y 1 j.0) eb)
    go false ea false eb rec =
        let i = neither_true (eqb x 1) (eqb y 1 || eqb (flip x) y) ea in
        let j = neither_true (eqb x 0) (eqb y 0 || eqb x y) eb in
        let fx = facts_at t z (ref x) (omega (arith, eqb-false x 1 i.0, eqb-false x 0 j.0)) kx.0 in
        every_answer t z v x y (omega (arith, fx.known)) (kx.0, omega arith) (ky.0, omega arith) (disjoint n t) (λ c d k l. rec c d k l (omega (arith, h, kx.1, ky.1))) (every f pairs) refl

pub disjoint_answer : (t : Table) → Sound t → (x y : ℕ) → Known t x → Known t y → Answer t x y (is_disjoint t x y)
disjoint_answer t z x y kx ky = answered (suc variables) t z 0 x y (kx, omega arith) (ky, omega arith) (omega arith)
