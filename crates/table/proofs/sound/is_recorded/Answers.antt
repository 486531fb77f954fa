use Rattle.table.proofs.Whole.{recorded}
use Rattle.table.proofs.sound.is_recorded.Goals as goal

pub returns : goal.returns
returns c = recorded _ _ c.args.n c.rules_hold.result c.rules_hold.ensures c.word.ensures.0 c.eq.ensures
