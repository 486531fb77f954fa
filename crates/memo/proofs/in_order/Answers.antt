use Rattle.memo.specs.Recalling.{as_given, turned}
use Rattle.memo.proofs.in_order.Goals as goal

pub returns-then-y-x : goal.returns-then-y-x
returns-then-y-x c = turned

pub returns-else-y-x : goal.returns-else-y-x
returns-else-y-x c = as_given
