use mathlib.Core.Path.{refl, sym}
use Rattle.kernel.proofs.Results.{refusal_not_done, same_number, no_id}
use Rattle.kernel.proofs.Admitted.{admitted_lent, condition_refused, condition_answered}
use Rattle.kernel.proofs.conditions_calls.from_bool.Goals as goal

pub returns-in_err-used-clause-comes : goal.returns-in_err-used-clause-comes
returns-in_err-used-clause-comes c = (tt, condition_refused _ _ _ _ c.is_boolean.ensures (rw (c.read.ensures.nodes, c.read.ensures.children, c.read.ensures.cuts, c.read.ensures.index) at c.in_err-used.ensures).1 (refusal_not_done _) (same_number _ _ c.from_residual.ensures.1, no_id _ _ c.from_residual.ensures.1))

pub from_bool-requires : goal.from_bool-requires
from_bool-requires c = let x = admitted_lent c.is_boolean.ensures (rw (c.read.ensures.nodes, c.read.ensures.children, c.read.ensures.cuts, c.read.ensures.index) at c.in_ok-used.ensures) refl in (x.0, x.1.0, x.1.1)

pub returns-in_err-from_bool-clause-comes : goal.returns-in_err-from_bool-clause-comes
returns-in_err-from_bool-clause-comes c = rw (c.table-4-1.given.1 (sym c.from_bool.ensures.same.nodes), c.table-3-1.given.1 (sym c.from_bool.ensures.same.children), c.table-2-1.given.1 (sym c.from_bool.ensures.same.cuts), c.table-1.given.1 (sym c.from_bool.ensures.same.index)) (tt, condition_answered _ _ _ _ (admitted_lent c.is_boolean.ensures (rw (c.read.ensures.nodes, c.read.ensures.children, c.read.ensures.cuts, c.read.ensures.index) at c.in_ok-used.ensures) refl) c.in_err-from_bool.ensures.makes refl (same_number _ _ c.from_residual-in_err-from_bool.ensures.1, no_id _ _ c.from_residual-in_err-from_bool.ensures.1))

pub returns-clause-comes : goal.returns-clause-comes
returns-clause-comes c = rw (c.table-4-1.given.1 (sym c.from_bool.ensures.same.nodes), c.table-3-1.given.1 (sym c.from_bool.ensures.same.children), c.table-2-1.given.1 (sym c.from_bool.ensures.same.cuts), c.table-1.given.1 (sym c.from_bool.ensures.same.index)) (tt, condition_answered _ _ _ _ (admitted_lent c.is_boolean.ensures (rw (c.read.ensures.nodes, c.read.ensures.children, c.read.ensures.cuts, c.read.ensures.index) at c.in_ok-used.ensures) refl) c.in_ok-from_bool.ensures.makes refl (refl, refl))
