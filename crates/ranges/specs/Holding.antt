-- Ranges of positions as the code has them, and what each operation on them has to answer. Document 01, step 2. Assumes nothing.
use Rattle.std.specs.Prelude.{◌≡◌, Bool, true, false, not, cond, ◌&&◌, ◌||◌, ℕ, suc, ◌≤◌, leb, eqb, ℤ}
use Rattle.ranges.specs.Line.{Place, position, top}
use Rattle.ranges.specs.Bounding.{inside}
use Rattle.ranges.specs.Comparing.{compares}
use Rattle.ranges.specs.declared.bounds.Bound.{Bound}
use Rattle.ranges.specs.declared.bounds.Comparison.{Comparison}
use Rattle.ranges.specs.declared.spans.Range.{Range}
use Rattle.ranges.specs.declared.spans.Parts.{Parts}
use Rattle.ranges.specs.declared.spans.Compared.{Compared}

-- Whether a range holds a position.
abbrev pub holds : Range → ℕ → Bool
holds r q = leb r.first q && leb q r.last

-- The range between two bounds: of every place, whether it is inside.
abbrev pub Inside : Bound → Bound → Range → Type 0
Inside lower upper r = (p : ℤ) → Place p → holds r (position p) ≡ inside lower upper p

-- Where a comparison with a key holds: of every place, whether it is inside the range, or outside it.
abbrev pub Where : Comparison → ℤ → Compared → Type 0
Where op key c = (p : ℤ) → Place p → cond c.outside (not (holds c.range (position p))) (holds c.range (position p)) ≡ compares op key p

-- The positions that both hold.
abbrev pub Both : Range → Range → Range → Type 0
Both a b r = (q : ℕ) → holds r q ≡ (holds a q && holds b q)

-- A range with no position, and only that, is empty.
pub record Emptiness (r : Range) (answer : Bool) : Type 0 where
  pub yes : answer ≡ true → (q : ℕ) → holds r q ≡ false
  pub no : answer ≡ false → holds r r.first ≡ true

-- The positions of the line that it does not hold.
abbrev pub Outside : Range → Parts → Type 0
Outside r s = (q : ℕ) → q ≤ top → (holds s.left q || holds s.right q) ≡ not (holds r q)

-- Two ranges are neighbours when the second goes on where the first ends, without a gap or an overlap: neither is empty, and the
-- first place of the second is the next one after the last place of the first.
abbrev pub neighbours : Range → Range → Bool
neighbours a b = leb a.first a.last && (leb b.first b.last && eqb (suc a.last) b.first)
