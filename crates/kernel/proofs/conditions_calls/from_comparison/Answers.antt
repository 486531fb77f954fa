use mathlib.Core.Path.{refl, sym}
use Rattle.ranges.proofs.Machine.{key_fits}
use Rattle.kernel.proofs.Results.{refusal_not_done, same_number, no_id}
use Rattle.kernel.proofs.Admitted.{admitted_lent, condition_refused, condition_answered, same_comparison}
use Rattle.kernel.proofs.conditions_calls.from_comparison.Goals as goal

pub returns-in_err-used-clause-comes : goal.returns-in_err-used-clause-comes
returns-in_err-used-clause-comes c = (key_fits _ c.ranges.key.sfits, condition_refused _ _ _ _ c.is_range.ensures (rw (c.read.ensures.nodes, c.read.ensures.children, c.read.ensures.cuts, c.read.ensures.index) at c.in_err-used.ensures).1 (refusal_not_done _) (same_number _ _ c.from_residual.ensures.1, no_id _ _ c.from_residual.ensures.1))

pub from_comparison-requires : goal.from_comparison-requires
from_comparison-requires c = let x = admitted_lent c.is_range.ensures (rw (c.read.ensures.nodes, c.read.ensures.children, c.read.ensures.cuts, c.read.ensures.index) at c.in_ok-used.ensures) refl in (x.0, x.1)

pub returns-in_err-from_comparison-clause-comes : goal.returns-in_err-from_comparison-clause-comes
returns-in_err-from_comparison-clause-comes c = rw (c.table-4-1.given.1 (sym c.from_comparison.ensures.same.nodes), c.table-3-1.given.1 (sym c.from_comparison.ensures.same.children), c.table-2-1.given.1 (sym c.from_comparison.ensures.same.cuts), c.table-1.given.1 (sym c.from_comparison.ensures.same.index)) (key_fits _ c.ranges.key.sfits, condition_answered _ _ _ _ (admitted_lent c.is_range.ensures (rw (c.read.ensures.nodes, c.read.ensures.children, c.read.ensures.cuts, c.read.ensures.index) at c.in_ok-used.ensures) refl) c.in_err-from_comparison.ensures.makes (same_comparison _ c.args.v c.args.op c.args.key c.ranges.key) (same_number _ _ c.from_residual-in_err-from_comparison.ensures.1, no_id _ _ c.from_residual-in_err-from_comparison.ensures.1))

pub returns-clause-comes : goal.returns-clause-comes
returns-clause-comes c = rw (c.table-4-1.given.1 (sym c.from_comparison.ensures.same.nodes), c.table-3-1.given.1 (sym c.from_comparison.ensures.same.children), c.table-2-1.given.1 (sym c.from_comparison.ensures.same.cuts), c.table-1.given.1 (sym c.from_comparison.ensures.same.index)) (key_fits _ c.ranges.key.sfits, condition_answered _ _ _ _ (admitted_lent c.is_range.ensures (rw (c.read.ensures.nodes, c.read.ensures.children, c.read.ensures.cuts, c.read.ensures.index) at c.in_ok-used.ensures) refl) c.in_ok-from_comparison.ensures.makes (same_comparison _ c.args.v c.args.op c.args.key c.ranges.key) (refl, refl))
