use mathlib.Core.Path.{◌∙◌}
use mathlib.Core.Logic.{inl, inr}
use native.Mathlib.Omega.{arith}
use Rattle.ranges.specs.Line.{top}
use Rattle.ranges.proofs.Holds.{range_last_lt_first, range_first_le_last}
use Rattle.conditions.proofs.Shapes.{empty_range, from_lowest, from_higher}
use Rattle.conditions.proofs.edges_of.Goals as goal
use Rattle.conditions.proofs.edges_of.Goals.{then-r-lt-TOP, else-r-lt-TOP}

-- `conditions::edges_of` meets its contract: an edge for each part that has a position. Assumes nothing.
pub returns-then-is_empty : goal.returns-then-is_empty
returns-then-is_empty c = (c.few_edges.ensures.0, rw c.new-above.ensures at c.few_edges.ensures.1 ∙ empty_range c.args.r.first c.args.r.last top (range_last_lt_first c.is_empty.ensures c.if-is_empty.true))

pub returns-then-r-eq0 : goal.returns-then-r-eq0
returns-then-r-eq0 c = (c.few_edges-then-r-eq0.ensures.0, rw (c.new-inside.ensures, c.new-above.ensures) at c.few_edges-then-r-eq0.ensures.1 ∙ from_lowest c.args.r.first c.args.r.last top c.if-r-lt-TOP.len (range_first_le_last c.is_empty.ensures c.if-is_empty.false) (elim c.if-r-lt-TOP.branch [ then-r-lt-TOP w ↦ inl (omega arith) | else-r-lt-TOP w ↦ inr (omega arith) ]) c.if-r-eq0.true)

pub returns : goal.returns
returns c = (c.few_edges-2.ensures.0, rw (c.new-below.ensures, c.new-inside.ensures, c.new-above.ensures) at c.few_edges-2.ensures.1 ∙ from_higher c.args.r.first c.args.r.last top c.if-r-lt-TOP.len (range_first_le_last c.is_empty.ensures c.if-is_empty.false) (elim c.if-r-lt-TOP.branch [ then-r-lt-TOP w ↦ inl (omega arith) | else-r-lt-TOP w ↦ inr (omega arith) ]) c.if-r-eq0.false)
