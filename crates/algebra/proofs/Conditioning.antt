-- Conditions: a range between two positions, and the three kinds of condition. Assumes nothing.
use mathlib.Core.Path.{◌≡◌, refl, sym, ◌∙◌, ap}
use mathlib.Core.Bool.{Bool, true, false, not, cond, ◌&&◌}
use Prim.Native.Nat.{ℕ, suc, ◌≤◌, ◌<◌}
use native.Mathlib.Omega.{arith}
use lib.Dec.{ltb, leb, eqb}
use lib.IntN.{ℤ}
use borrow.Author.Tests.{ltb-true, ltb-false, leb-true, leb-false, eqb-true, eqb-false, lt-leb}
use Rattle.ids.specs.Id.{flip}
use Rattle.ranges.specs.Line.{position, top}
use Rattle.ranges.specs.Ending.{first_place, last_place, lower_of, upper_of, outside_of}
use Rattle.ranges.specs.declared.bounds.Bound.{Bound}
use Rattle.ranges.specs.declared.bounds.Comparison.{Comparison}
use Rattle.diagram.specs.Pieces.{Pieces, last, cut, select}
use Rattle.diagram.specs.Shape.{Each, Rising}
use Rattle.diagram.specs.Table.{variables, is_range, top_of, Table, Assignment, value}
use Rattle.diagram.specs.Cofactor.{map}
use Rattle.diagram.specs.Sound.{Child, Sound}
use Rattle.diagram.proofs.Lookup.{at_end, value_true, value_false}
use Rattle.diagram.proofs.Piecewise.{select_left, select_right}
use Rattle.diagram.proofs.Cofactors.{select_map, rising_map, each_map}
use Rattle.algebra.specs.Making.{create_node}
use Rattle.algebra.specs.Conditions.{up_to, between, terminal, from_range, comparison, from_bool}
use Rattle.algebra.proofs.Made.{Made, made_same_meaning}
use Rattle.algebra.proofs.Making.{created}
use Rattle.algebra.proofs.Conjoining.{flip_made}

-- the pieces of a range
pub rising_up_to : (b hi t : ℕ) → b ≤ hi → b ≤ t → Rising b t (up_to hi t)
unfolding up_to
rising_up_to b hi t l m = go (ltb hi t) refl
  where
    go : (x : Bool) → ltb hi t ≡ x → Rising b t (cond x (cut true (suc hi) (last false)) (last true))
    go true e = (omega arith, ltb-true hi t e, ltb-true hi t e)
    go false e = m

pub rising_between : (lo hi t : ℕ) → lo ≤ t → Rising 0 t (between lo hi t)
unfolding between
rising_between lo hi t l = go (ltb hi lo) refl (eqb lo 0) refl
  where
    go : (x : Bool) → ltb hi lo ≡ x → (y : Bool) → eqb lo 0 ≡ y → Rising 0 t (cond x (last false) (cond y (up_to hi t) (cut false lo (up_to hi t))))
    go true e y f = omega arith
    go false e true f = rising_up_to 0 hi t (omega arith) (omega arith)
    go false e false f = (omega (arith, eqb-false lo 0 f), l, rising_up_to lo hi t (ltb-false hi lo e) l)

select_up_to : (hi t p : ℕ) → p ≤ t → select (up_to hi t) p ≡ leb p hi
unfolding up_to
select_up_to hi t p h = go (ltb hi t) refl (leb p hi) refl
  where
    go : (x : Bool) → ltb hi t ≡ x → (y : Bool) → leb p hi ≡ y → select (cond x (cut true (suc hi) (last false)) (last true)) p ≡ y
    go true e true f = select_left true (suc hi) (last false) p (omega (arith, leb-true p hi f))
    go true e false f = select_right true (suc hi) (last false) p (leb-false p hi f)
    go false e true f = refl
    go false e false f = absurd (omega (arith, ltb-false hi t e, leb-false p hi f))

-- of every position up to the top, whether it is inside
pub select_between : (lo hi t p : ℕ) → p ≤ t → select (between lo hi t) p ≡ (leb lo p && leb p hi)
unfolding between
select_between lo hi t p h = go (ltb hi lo) refl (eqb lo 0) refl (leb lo p) refl
  where
    go : (x : Bool) → ltb hi lo ≡ x → (y : Bool) → eqb lo 0 ≡ y → (w : Bool) → leb lo p ≡ w → select (cond x (last false) (cond y (up_to hi t) (cut false lo (up_to hi t)))) p ≡ (w && leb p hi)
    go true e y f true g = sym (lt-leb p hi (omega (arith, ltb-true hi lo e, leb-true lo p g)))
    go true e y f false g = refl
    go false e true f true g = select_up_to hi t p h
    go false e true f false g = absurd (omega (arith, eqb-true lo 0 f, leb-false lo p g))
    go false e false f true g = select_right false lo (up_to hi t) p (leb-true lo p g) ∙ select_up_to hi t p h
    go false e false f false g = select_left false lo (up_to hi t) p (leb-false lo p g)

-- terminals
pub child_terminal : (t : Table) (u : ℕ) → u ≤ variables → (b : Bool) → Child t u (terminal b)
child_terminal t u h true = (omega arith, rw (at_end t) h)
child_terminal t u h false = (omega arith, rw (at_end t) h)

value_terminal : (t : Table) (α : Assignment) (b : Bool) → value t α (terminal b) ≡ b
value_terminal t α true = value_true t α 0 refl
value_terminal t α false = value_false t α 1 refl

pub each_any : {A : Type 0} (e : Pieces A) → Each (λ a. Unit {0}) e
each_any (last a) = tt
each_any (cut a k e) = (tt, each_any e)

-- a condition on one variable: the terminal for each position
condition_made : (t : Table) → Sound t → (v : ℕ) → v < variables → (e : Pieces Bool) → Rising 0 (top_of v) e → Made t v (λ α. select e (α v)) (create_node t v (map terminal e))
condition_made t z v hv e rise =
    made_same_meaning (created t z v hv (map terminal e) (rising_map terminal 0 (top_of v) e rise) (each_map terminal (λ b. Unit {0}) (Child t (suc v)) (λ b x. child_terminal t (suc v) hv b) e (each_any e))).made
    (λ α. ap (value t α) (select_map terminal e (α v)) ∙ value_terminal t α (select e (α v)))

pub from_range_made : (t : Table) → Sound t → (v : ℕ) → v < variables → (lower upper : Bound) → position (first_place lower) ≤ top_of v
    → Made t v (λ α. select (between (position (first_place lower)) (position (last_place upper)) (top_of v)) (α v)) (from_range t v lower upper)
unfolding from_range
from_range_made t z v hv lower upper l = condition_made t z v hv (between (position (first_place lower)) (position (last_place upper)) (top_of v)) (rising_between (position (first_place lower)) (position (last_place upper)) (top_of v) l)

pub comparison_made : (t : Table) → Sound t → (v : ℕ) → v < variables → (op : Comparison) (key : ℤ) → position (first_place (lower_of op key)) ≤ top_of v
    → (m : Assignment → Bool) → ((α : Assignment) → select (between (position (first_place (lower_of op key))) (position (last_place (upper_of op key))) (top_of v)) (α v) ≡ m α)
    → Made t v (λ α. cond (outside_of op) (not (m α)) (m α)) (comparison t v op key)
unfolding comparison
comparison_made t z v hv op key l m h = go (outside_of op)
  where
    x : Made t v m (from_range t v (lower_of op key) (upper_of op key))
    x = made_same_meaning (from_range_made t z v hv (lower_of op key) (upper_of op key) l) h

    go : (b : Bool) → Made t v (λ α. cond b (not (m α)) (m α)) ((from_range t v (lower_of op key) (upper_of op key)).0, cond b (flip (from_range t v (lower_of op key) (upper_of op key)).1) (from_range t v (lower_of op key) (upper_of op key)).1)
    go true = flip_made x
    go false = x

pub from_bool_made : (t : Table) → Sound t → (v : ℕ) → v < variables → Made t v (λ α. ltb (α v) 1) (from_bool t v)
unfolding from_bool map
from_bool_made t z v hv = made_same_meaning (condition_made t z v hv (cut true 1 (last false)) (one (is_range v))) (λ α. yes_below (ltb (α v) 1))
  where
    one : (b : Bool) → (0 < 1) × (1 ≤ cond b top 1) × (1 ≤ cond b top 1)
    one true = (omega arith, omega arith, omega arith)
    one false = (omega arith, omega arith, omega arith)

    yes_below : (b : Bool) → cond b true false ≡ b
    yes_below true = refl
    yes_below false = refl
