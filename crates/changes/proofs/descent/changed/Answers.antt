use Rattle.walks.proofs.Finished.{worked_when_finished}
use Rattle.changes.proofs.descent.changed.Goals as goal

-- `descent::changed` meets its contract: `descend` on an empty memo, and the end of an operation. Assumes nothing.
pub returns-clause-works : goal.returns-clause-works
returns-clause-works g c = worked_when_finished c.requires.0 c.descend-answer.ensures.steps c.finish.ensures.finishes
