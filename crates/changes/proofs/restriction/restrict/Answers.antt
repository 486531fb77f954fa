use borrow.Author.Tests.{lt-ltb, le-ltb}
use Rattle.merging.proofs.Bottoms.{restrict_range_unchanged, restrict_is_change}
use Rattle.making.specs.Working.{table_in}
use Rattle.walks.proofs.Finished.{worked_adds_nothing}
use Rattle.changes.proofs.restriction.restrict.Goals as goal

-- `restriction::restrict` meets its contract: the id itself at a range variable, else the change by the value. Assumes nothing.
pub returns-then-v-lt-FIRST_BOOLEAN-clause-works : goal.returns-then-v-lt-FIRST_BOOLEAN-clause-works
returns-then-v-lt-FIRST_BOOLEAN-clause-works c = worked_adds_nothing c.requires.0 c.requires.2 _ (restrict_range_unchanged (table_in c.args.table.now) c.args.v c.args.value c.args.id.0 (lt-ltb _ _ c.if-v-lt-FIRST_BOOLEAN.true))

pub returns-clause-works : goal.returns-clause-works
returns-clause-works c = rw (restrict_is_change (table_in c.args.table.now) c.args.v c.args.value c.args.id.0 (le-ltb _ _ c.if-v-lt-FIRST_BOOLEAN.false)) c.changed.ensures.works
