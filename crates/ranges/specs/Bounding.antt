-- Bounds, and the range between two of them. Document 01, "Readings and conditions". Assumes nothing.
use Rattle.std.specs.Prelude.{◌≡◌, Bool, true, false, ◌&&◌, ℕ, ◌+◌, ◌-◌, ◌≤◌, ℤ}
use Rattle.std.specs.Int.Signed.{le_z, lt_z}
use Rattle.ranges.specs.Line.{Key, Place, exactly, position}
use Rattle.ranges.specs.declared.bounds.Bound.{Bound}
use Rattle.ranges.specs.declared.bounds.Bound.TheVariants.{Open, Includes, Excludes}

-- "A bound is an open end, includes v, or excludes v." Whether a place lies on the inner side of a lower bound,
abbrev pub above : Bound → ℤ → Bool
above Open p = true
above (Includes v) p = le_z (exactly v) p
above (Excludes v) p = lt_z (exactly v) p

-- and of an upper one.
abbrev pub below : Bound → ℤ → Bool
below Open p = true
below (Includes v) p = le_z p (exactly v)
below (Excludes v) p = lt_z p (exactly v)

-- Whether a bound's number is a key.
abbrev pub Keyed : Bound → Type 0
Keyed Open = Unit {0}
Keyed (Includes v) = Key v
Keyed (Excludes v) = Key v

-- Whether a place lies in the range between two bounds.
abbrev pub inside : Bound → Bound → ℤ → Bool
inside lower upper p = above lower p && below upper p

-- "A range is empty when its first place is above its last": when no place is inside.
abbrev pub Empty : Bound → Bound → Type 0
Empty lower upper = (p : ℤ) → Place p → inside lower upper p ≡ false

-- How far two places are apart.
abbrev pub distance : ℤ → ℤ → ℕ
distance p q = (position p - position q) + (position q - position p)

-- "The nearest place inside the bounds" to a place p: q is inside, and no place inside is nearer.
pub record Nearest (lower upper : Bound) (p q : ℤ) : Type 0 where
  pub within : inside lower upper q ≡ true
  pub least : (r : ℤ) → Place r → inside lower upper r ≡ true → distance p q ≤ distance p r
