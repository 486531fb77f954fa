-- The calls that may add nodes, a row for each: what it is lent and given, what its operation makes, and what document 01 asks of its answer.
-- The contract (`Makes`) and the promises are stated once, over the rows. Document 01, steps 3, 5, 7, 8 and 9, and "When the kernel is told
-- no", rows 1, 3 and 4. Assumes nothing.
use Rattle.std.specs.Prelude.{◌≡◌, Bool, ◌&&◌, ◌||◌, List, ℕ, ◌≤◌, ◌<◌, length, ℤ}
use Rattle.ids.specs.Id.{KnownTo}
use Rattle.ranges.specs.Line.{Key}
use Rattle.ranges.specs.Bounding.{Keyed, inside, Empty}
use Rattle.ranges.specs.Comparing.{compares}
use Rattle.ranges.specs.declared.bounds.Bound.{Bound}
use Rattle.ranges.specs.declared.bounds.Comparison.{Comparison}
use Rattle.diagram.specs.Table.{first_boolean, variables, Table}
use Rattle.diagram.specs.Reading.{Reading, says, switched}
use Rattle.algebra.specs.Conditions.{from_range, comparison, from_bool}
use Rattle.algebra.specs.Conjunction.{and, or}
use Rattle.algebra.specs.Changing.{restrict, narrow, widen}
use Rattle.algebra.specs.Narrowing.{AtNearest, EmptyAnswer}
use Rattle.table.specs.Layout.{room, MemoLengths, Store}
use Rattle.table.specs.Told.{Allowed}

-- What is asked: a condition, or an operation on ids.
pub data Call : Type 0 where
  range_of : (v : ℕ) (lower upper : Bound) → Call
  comparison_of : (v : ℕ) (op : Comparison) (key : ℤ) → Call
  boolean_of : (v : ℕ) → Call
  both_of : (x y : ℕ) → Call
  either_of : (x y : ℕ) → Call
  restriction_of : (id v : ℕ) (value : Bool) → Call
  narrowing_of : (id v : ℕ) (lower upper : Bound) → Call
  widening_of : (id v : ℕ) (lower upper : Bound) → Call

-- The row of a call.
pub record Row : Type 1 where
  -- the lengths that it is lent, of a table, an index and a memo, are allowed
  pub lent : Store → List ℕ → List ℕ → Type 0
  -- the numbers of its bounds are keys, as every number is that a call can be given there: no outcome refuses one
  pub keys : Type 0
  -- its ids are known, where this many nodes are used
  pub known : ℕ → Type 0
  -- its variable is of the kind that is asked
  pub kind : Type 0
  -- the table and the id that its operation makes from a table
  pub make : Table → Table × ℕ
  -- m, which says of each reading yes or no, is what the answer has to say, from this table
  pub asks : Table → (m : Reading → Bool) → Type 0

-- A condition is given no id and is lent no memo.
abbrev condition : (keys kind : Type 0) (make : Table → Table × ℕ) (asks : Table → (Reading → Bool) → Type 0) → Row
condition keys kind make asks = record { lent = λ st index memo. Allowed st index; keys = keys; known = λ u. Unit {0}; kind = kind; make = make; asks = asks }

-- An operation on ids is lent a memo.
abbrev pub Lending : Store → List ℕ → List ℕ → Type 0
Lending st index memo = Allowed st index × MemoLengths (length memo) (room st.nodes)

abbrev operation : (keys : Type 0) (known : ℕ → Type 0) (kind : Type 0) (make : Table → Table × ℕ) (asks : Table → (Reading → Bool) → Type 0) → Row
operation keys known kind make asks = record { lent = Lending; keys = keys; known = known; kind = kind; make = make; asks = asks }

-- The numbers of two bounds are keys; two ids are known.
abbrev pub BothKeyed : Bound → Bound → Type 0
BothKeyed lower upper = Keyed lower × Keyed upper

abbrev pub BothKnown : ℕ → ℕ → ℕ → Type 0
BothKnown x y u = KnownTo u x × KnownTo u y

-- The answer has to say what f says of the table.
abbrev Says : (Table → Reading → Bool) → Table → (Reading → Bool) → Type 0
Says f t m = (ρ : Reading) → m ρ ≡ f t ρ

abbrev pub row : Call → Row
-- "A range by two bounds", which "ask[s] a range variable": inside.
row (range_of v lower upper) = condition (BothKeyed lower upper) (v < first_boolean) (λ t. from_range t v lower upper) (Says (λ t ρ. inside lower upper (ρ.place v)))
-- "Six comparisons with a key", which are range conditions too.
row (comparison_of v op key) = condition (Key key) (v < first_boolean) (λ t. comparison t v op key) (Says (λ t ρ. compares op key (ρ.place v)))
-- "A boolean condition asks a boolean one"; "64 or more" is no variable.
row (boolean_of v) = condition (Unit {0}) ((first_boolean ≤ v) × (v < variables)) (λ t. from_bool t v) (Says (λ t ρ. ρ.holds v))
-- Conjunction, and "`or` by negation", name no variable.
row (both_of x y) = operation (Unit {0}) (BothKnown x y) (Unit {0}) (λ t. and t x y) (Says (λ t ρ. says t ρ x && says t ρ y))
row (either_of x y) = operation (Unit {0}) (BothKnown x y) (Unit {0}) (λ t. or t x y) (Says (λ t ρ. says t ρ x || says t ρ y))
-- "Restriction of one boolean to a value. Naming a range variable returns the id unchanged."
row (restriction_of id v value) =
    operation (Unit {0}) (λ u. KnownTo u id) (v < variables) (λ t. restrict t v value id)
    (λ t m. (first_boolean ≤ v → Says (λ s ρ. says s (switched ρ v value) id) t m) × (v < first_boolean → Says (λ s ρ. says s ρ id) t m))
-- "Narrowing and widening ask a range variable": "the old answer at the nearest place inside the bounds", and what is asked with empty
-- bounds; "old answer and inside the bounds".
row (narrowing_of id v lower upper) =
    operation (BothKeyed lower upper) (λ u. KnownTo u id) (v < first_boolean) (λ t. narrow t v lower upper id)
    (λ t m. ((ρ σ : Reading) → AtNearest v lower upper ρ σ → m ρ ≡ says t σ id) × (Empty lower upper → EmptyAnswer t v id m))
row (widening_of id v lower upper) =
    operation (BothKeyed lower upper) (λ u. KnownTo u id) (v < first_boolean) (λ t. widen t v lower upper id)
    (Says (λ t ρ. says t ρ id && inside lower upper (ρ.place v)))
