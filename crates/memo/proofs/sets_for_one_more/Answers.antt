use mathlib.Core.Path.{◌∙◌}
use native.Mathlib.Omega.{arith}
use Rattle.memo.proofs.Recalled.{kept_same, headed_readied, framed_readied}
use Rattle.memo.proofs.sets_for_one_more.Goals as goal

pub returns-then-head-sets : goal.returns-then-head-sets
returns-then-head-sets c = headed_readied (kept_same _ 0) _ _ (omega arith) (omega (arith, c.requires.2.within)) (omega (arith, c.requires.2.within)) (omega arith) c.requires.2.within (λ i l. c.requires.2.tail i l)

pub returns-then-memo-sets : goal.returns-then-memo-sets
returns-then-memo-sets c = framed_readied c.requires.2 (omega arith)

pub returns : goal.returns
returns c = headed_readied c.spread.ensures _ _ (omega arith) (omega (arith, c.requires.2.within)) (omega (arith, c.requires.2.within)) (omega arith) (omega arith) (λ i l. c.spread.ensures.behind i l ∙ c.requires.2.tail i (omega arith))
