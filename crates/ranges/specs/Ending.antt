-- The ends of a range, as the operations go by them. What they come to is said by Bounding, Comparing and Holding, so that no promise
-- rests on this file. Assumes nothing.
use Rattle.std.specs.Prelude.{◌≡◌, Bool, true, false, ℕ, ◌+◌, ◌≤◌, ◌^◌, ltb, ℤ, pos, ◌+ℤ◌, ◌-ℤ◌}
use Rattle.std.specs.Int.Signed.{lt_z}
use Rattle.ranges.specs.Line.{exactly, lowest, highest, position, top}
use Rattle.ranges.specs.Holding.{holds, Inside, Where}
use Rattle.ranges.specs.declared.bounds.Bound.{Bound}
use Rattle.ranges.specs.declared.bounds.Bound.TheVariants.{Open, Includes, Excludes}
use Rattle.ranges.specs.declared.bounds.Comparison.{Comparison}
use Rattle.ranges.specs.declared.bounds.Comparison.TheVariants.{Equal, NotEqual, LessThan, LessEqual, GreaterThan, GreaterEqual}
use Rattle.ranges.specs.declared.spans.Range.{Range}
use Rattle.ranges.specs.declared.spans.Compared.{Compared}

-- The place at a position: the way back from `position` (`position_place_at`, `place_at_position`).
abbrev pub place_at : ℕ → ℤ
place_at q = pos q -ℤ pos (2 ^ 32 + 1)

-- The first place of a range, by its lower bound,
abbrev pub first_place : Bound → ℤ
first_place Open = lowest
first_place (Includes v) = exactly v
first_place (Excludes v) = exactly v +ℤ pos 1

-- and the last, by its upper one.
abbrev pub last_place : Bound → ℤ
last_place Open = highest
last_place (Includes v) = exactly v
last_place (Excludes v) = exactly v -ℤ pos 1

-- "A range is empty when its first place is above its last": so it is exactly when no place is inside (`empty_exactly`).
abbrev pub empty : Bound → Bound → Bool
empty lower upper = lt_z (last_place upper) (first_place lower)

-- Each comparison as a range between two bounds: it holds inside the range, or, for !=, outside it.
abbrev pub lower_of : Comparison → ℤ → Bound
lower_of Equal key = Includes key
lower_of NotEqual key = Includes key
lower_of LessThan key = Open
lower_of LessEqual key = Open
lower_of GreaterThan key = Excludes key
lower_of GreaterEqual key = Includes key

abbrev pub upper_of : Comparison → ℤ → Bound
upper_of Equal key = Includes key
upper_of NotEqual key = Includes key
upper_of LessThan key = Excludes key
upper_of LessEqual key = Includes key
upper_of GreaterThan key = Open
upper_of GreaterEqual key = Open

abbrev pub outside_of : Comparison → Bool
outside_of Equal = false
outside_of NotEqual = true
outside_of LessThan = false
outside_of LessEqual = false
outside_of GreaterThan = false
outside_of GreaterEqual = false

-- The range between two bounds. Its ends are the first and the last place, both on the line.
pub record Bounded (lower upper : Bound) (r : Range) : Type 0 where
  pub first : r.first ≡ position (first_place lower)
  pub last : r.last ≡ position (last_place upper)
  pub first_within : r.first ≤ top
  pub last_within : r.last ≤ top
  pub inner : Inside lower upper r

-- Where a comparison with a key holds. The range is that of its bounds.
pub record Compares (op : Comparison) (key : ℤ) (c : Compared) : Type 0 where
  pub between : Bounded (lower_of op key) (upper_of op key) c.range
  pub side : c.outside ≡ outside_of op
  pub says : Where op key c

-- The positions below one, and those of the line above one.
abbrev pub Before : ℕ → Range → Type 0
Before n r = (q : ℕ) → holds r q ≡ ltb q n

abbrev pub After : ℕ → Range → Type 0
After n r = (q : ℕ) → q ≤ top → holds r q ≡ ltb n q
