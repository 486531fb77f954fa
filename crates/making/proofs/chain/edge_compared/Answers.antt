use mathlib.Core.Path.{ap}
use Rattle.std.specs.Ordering.{ordering_index}
use Rattle.making.proofs.Fronts.{ordered_at, ordered_cmp, index_equal, number_decided, number_further}
use Rattle.making.proofs.chain.edge_compared.Goals as goal

-- By the child, and where that is the same by the cut.
pub returns-in-Equal : goal.returns-in-Equal
returns-in-Equal c = number_further c.child_at.ensures.0 (ordered_cmp c.cmp.ensures) (ap ordering_index c.in-Equal.is) (ordered_at c.cut_position_at.ensures.0 (ordered_cmp c.cmp-in-Equal.ensures))

pub returns-in_default : goal.returns-in_default
returns-in_default c = number_decided _ _ c.child_at.ensures.0 (ordered_cmp c.cmp.ensures) (λ e. c.in_default.not-Equal (index_equal _ e))
