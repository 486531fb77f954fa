use Rattle.memo.proofs.Recalled.{kept_same, kept_then_kept}
use Rattle.memo.proofs.spread.Goals as goal

pub loop-i-init : goal.loop-i-init
loop-i-init c = kept_same _ _

pub loop-i-preserved : goal.loop-i-preserved
loop-i-preserved c = kept_then_kept c.loop-i.invariant c.move_word.ensures
