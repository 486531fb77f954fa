use mathlib.Core.Path.{refl}
use Rattle.kernel.proofs.Admitted.{admits_not, admits_it, admit_refuses}
use Rattle.kernel.proofs.admission.admit.Goals as goal

pub returns-in_err-used : goal.returns-in_err-used
returns-in_err-used c = admit_refuses _ _ c.in_err-used.ensures _ c.from_residual.ensures.1

pub returns-then-kind : goal.returns-then-kind
returns-then-kind c = admits_it c.in_ok-used.ensures refl c.if-kind.true

pub returns-else-kind : goal.returns-else-kind
returns-else-kind c = (c.in_ok-used.used, admits_not c.in_ok-used.ensures refl c.if-kind.false)
