-- Restriction, narrowing and widening as changes of the edges at a variable: the laws of `Change`. Assumes nothing.
use Rattle.std.specs.Prelude.{Bool, cond}
use Prim.Native.Nat.{ℕ, ◌≤◌, ◌<◌}
use lib.Dec.{ltb}
use borrow.Author.Tests.{ltb-false}
use Rattle.ranges.specs.Line.{top}
use Rattle.ranges.specs.declared.spans.Range.{Range}
use Rattle.diagram.specs.Table.{first_boolean}
use Rattle.algebra.proofs.Descending.{Changes}
use Rattle.algebra.proofs.Changed.{fixed_changes, widened_changes}
use Rattle.merging.proofs.Bottoms.{narrowing_changes}
use Rattle.clipping.proofs.Variables.{is_variable, on_line, first_on_line}
use Rattle.changes.specs.Changed.{restricting, narrowing, widening}

pub restricts : (v : ℕ) (value : Bool) → Changes v (restricting value)
restricts v value = fixed_changes v (cond value 0 1)

module _ {v : ℕ} (l : v < first_boolean) where
  pub narrow_changes : (r : Range) → r.last ≤ top → Changes v (narrowing r)
  narrow_changes r h = narrowing_changes v r.first r.last (ltb r.last r.first) (is_variable l) (λ e. ltb-false r.last r.first e) (on_line l h)

  pub widen_changes : (r : Range) → r.first ≤ r.last → r.last ≤ top → Changes v (widening v r)
  widen_changes r e h = widened_changes v r.first r.last (first_on_line l e h) (is_variable l)
