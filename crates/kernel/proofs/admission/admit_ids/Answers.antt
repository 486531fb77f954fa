use mathlib.Core.Path.{refl}
use Rattle.table.proofs.Laws.{decided_true, decided_false}
use Rattle.kernel.specs.Admitting.{ids_not_long, ids_not_known}
use Rattle.kernel.proofs.Admitted.{admitted_lent}
use Rattle.kernel.proofs.Deciding.{asks_none}
use Rattle.kernel.proofs.ByIds.{ids_refuse, ids_refuse_kind, ids_admit}
use Rattle.kernel.proofs.admission.admit_ids.Goals as goal

pub returns-then-not-memo_allowed : goal.returns-then-not-memo_allowed
returns-then-not-memo_allowed c = (record { nodes = 0; edges = 0 }, ids_not_long _ _ (decided_false c.memo_allowed.ensures c.if-not-memo_allowed.true))

pub returns-in_err-used : goal.returns-in_err-used
returns-in_err-used c = ids_refuse _ _ _ (decided_true c.memo_allowed.ensures c.if-not-memo_allowed.false) _ c.in_err-used.ensures _ c.from_residual.ensures.1

pub returns-then-not-both_known : goal.returns-then-not-both_known
returns-then-not-both_known c = (c.in_ok-used.used, ids_not_known _ _ (decided_true c.memo_allowed.ensures c.if-not-memo_allowed.false) (admitted_lent asks_none c.in_ok-used.ensures refl).0 (decided_false c.both_known.ensures c.if-not-both_known.true))

pub returns-then-kind : goal.returns-then-kind
returns-then-kind c = ids_admit (decided_true c.memo_allowed.ensures c.if-not-memo_allowed.false) (admitted_lent asks_none c.in_ok-used.ensures refl).0 (decided_true c.both_known.ensures c.if-not-both_known.false) c.if-kind.true

pub returns-else-kind : goal.returns-else-kind
returns-else-kind c = (c.in_ok-used.used, ids_refuse_kind (decided_true c.memo_allowed.ensures c.if-not-memo_allowed.false) (admitted_lent asks_none c.in_ok-used.ensures refl).0 (decided_true c.both_known.ensures c.if-not-both_known.false) c.if-kind.false)
