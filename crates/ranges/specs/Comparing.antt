-- The six comparisons. Document 01, step 3. Assumes nothing.
use Rattle.std.specs.Prelude.{Bool, not, ◌&&◌, ℤ}
use Rattle.std.specs.Int.Signed.{le_z, lt_z}
use Rattle.ranges.specs.Line.{exactly}
use Rattle.ranges.specs.declared.bounds.Comparison.{Comparison}
use Rattle.ranges.specs.declared.bounds.Comparison.TheVariants.{Equal, NotEqual, LessThan, LessEqual, GreaterThan, GreaterEqual}

-- "Six comparisons with a key: = != < <= > >=": what each says of a place.
abbrev pub compares : Comparison → ℤ → ℤ → Bool
compares Equal key p = le_z (exactly key) p && le_z p (exactly key)
compares NotEqual key p = not (le_z (exactly key) p && le_z p (exactly key))
compares LessThan key p = lt_z p (exactly key)
compares LessEqual key p = le_z p (exactly key)
compares GreaterThan key p = lt_z (exactly key) p
compares GreaterEqual key p = le_z (exactly key) p
