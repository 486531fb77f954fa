-- What restriction, narrowing and widening do to the edges at their variable, and what their memo notes. Assumes nothing.
use Rattle.std.specs.Prelude.{◌≡◌, Bool, cond, ℕ, ltb}
use Rattle.ranges.specs.declared.spans.Range.{Range}
use Rattle.diagram.specs.Pieces.{Pieces}
use Rattle.diagram.specs.Table.{variables, top_of, Table}
use Rattle.diagram.specs.Sound.{Known}
use Rattle.algebra.specs.Changing.{change, fixed, emptied, narrowed, widened}

-- Restriction to a value: the high edge is at position 0, the low one at position 1.
abbrev pub restricting : Bool → Pieces ℕ → Pieces ℕ
restricting value = fixed (cond value 0 1)

-- Narrowing to a range of positions, which may be empty.
abbrev pub narrowing : Range → Pieces ℕ → Pieces ℕ
narrowing r e = cond (ltb r.last r.first) (emptied e) (narrowed r.first r.last e)

-- Widening of variable v to a range of positions.
abbrev pub widening : ℕ → Range → Pieces ℕ → Pieces ℕ
widening v r = widened r.first r.last (top_of v)

-- One of these at variable v, of an id.
abbrev pub changed : ℕ → (Pieces ℕ → Pieces ℕ) → Table → ℕ → Table × ℕ
changed v g t id = change variables g t v id

-- The memo notes under x, beside TRUE, that it becomes z and that no node is missing.
pub record Changed (v : ℕ) (g : Pieces ℕ → Pieces ℕ) (t : Table) (x y z : ℕ) : Type 0 where
  pub known : Known t x
  pub becomes : changed v g t x ≡ (t, z)
