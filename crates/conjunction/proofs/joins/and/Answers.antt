use Rattle.walks.proofs.Finished.{worked_when_finished, recalled_when_finished}
use Rattle.conjunction.proofs.joins.and.Goals as goal

pub returns-clause-joins : goal.returns-clause-joins
returns-clause-joins c = record {
  worked = worked_when_finished c.requires.0.lent c.conjoin-answer.ensures.steps c.finish.ensures.finishes;
  recalled = recalled_when_finished c.requires.0.lent c.conjoin-answer.ensures.steps c.finish.ensures.finishes;
}
