use Rattle.making.proofs.Answered.{no_room_made}
use Rattle.making.specs.Working.{table_in}
use Rattle.conjunction.proofs.Whole.{or_joined, or_refused}
use Rattle.conjunction.proofs.joins.or.Goals as goal

-- `and` of the complements, complemented.
pub returns-in_err-id-clause-joins : goal.returns-in_err-id-clause-joins
returns-in_err-id-clause-joins c = rw (no_room_made _ c.and.new.table.used c.from_residual.ensures.0) (or_refused (table_in c.args.table.now) c.args.x.0 c.args.y.0 c.not.result.0 c.not-2.result.0 c.not.ensures c.not-2.ensures c.in_err-id.ensures.joins)

pub returns-clause-joins : goal.returns-clause-joins
returns-clause-joins c = or_joined (table_in c.args.table.now) c.args.x.0 c.args.y.0 c.not.result.0 c.not-2.result.0 c.not.ensures c.not-2.ensures c.in_ok-id.ensures.joins _ c.not-3.ensures
