use mathlib.Core.Path.{refl, sym}
use Rattle.ranges.proofs.Ends.{held_keyed}
use Rattle.kernel.proofs.Results.{refusal_not_done, same_number, no_id}
use Rattle.kernel.proofs.Admitted.{admitted_lent, condition_refused, condition_answered}
use Rattle.kernel.proofs.conditions_calls.from_range.Goals as goal

pub returns-in_err-used-clause-comes : goal.returns-in_err-used-clause-comes
returns-in_err-used-clause-comes c = ((held_keyed c.args.lower c.well_formed.1.1.0, held_keyed c.args.upper c.well_formed.1.1.1.0), condition_refused _ _ _ _ c.is_range.ensures (rw (c.read.ensures.nodes, c.read.ensures.children, c.read.ensures.cuts, c.read.ensures.index) at c.in_err-used.ensures).1 (refusal_not_done _) (same_number _ _ c.from_residual.ensures.1, no_id _ _ c.from_residual.ensures.1))

pub from_range-requires : goal.from_range-requires
from_range-requires c = let x = admitted_lent c.is_range.ensures (rw (c.read.ensures.nodes, c.read.ensures.children, c.read.ensures.cuts, c.read.ensures.index) at c.in_ok-used.ensures) refl in (x.0, x.1)

pub returns-in_err-from_range-clause-comes : goal.returns-in_err-from_range-clause-comes
returns-in_err-from_range-clause-comes c = rw (c.table-4-1.given.1 (sym c.from_range.ensures.same.nodes), c.table-3-1.given.1 (sym c.from_range.ensures.same.children), c.table-2-1.given.1 (sym c.from_range.ensures.same.cuts), c.table-1.given.1 (sym c.from_range.ensures.same.index)) ((held_keyed c.args.lower c.well_formed.1.1.0, held_keyed c.args.upper c.well_formed.1.1.1.0), condition_answered _ _ _ _ (admitted_lent c.is_range.ensures (rw (c.read.ensures.nodes, c.read.ensures.children, c.read.ensures.cuts, c.read.ensures.index) at c.in_ok-used.ensures) refl) c.in_err-from_range.ensures.makes refl (same_number _ _ c.from_residual-in_err-from_range.ensures.1, no_id _ _ c.from_residual-in_err-from_range.ensures.1))

pub returns-clause-comes : goal.returns-clause-comes
returns-clause-comes c = rw (c.table-4-1.given.1 (sym c.from_range.ensures.same.nodes), c.table-3-1.given.1 (sym c.from_range.ensures.same.children), c.table-2-1.given.1 (sym c.from_range.ensures.same.cuts), c.table-1.given.1 (sym c.from_range.ensures.same.index)) ((held_keyed c.args.lower c.well_formed.1.1.0, held_keyed c.args.upper c.well_formed.1.1.1.0), condition_answered _ _ _ _ (admitted_lent c.is_range.ensures (rw (c.read.ensures.nodes, c.read.ensures.children, c.read.ensures.cuts, c.read.ensures.index) at c.in_ok-used.ensures) refl) c.in_ok-from_range.ensures.makes refl (refl, refl))
