use native.Mathlib.Omega.{arith}
use borrow.Author.Count.{below_more}
use Rattle.table.proofs.Laws.{holds, fails, decided_true, decided_false}
use Rattle.table.proofs.sound.are_linked.Goals as goal

pub returns-then-not-is_linked : goal.returns-then-not-is_linked
returns-then-not-is_linked c = fails (λ p. decided_false c.is_linked.ensures c.if-not-is_linked.true (p c.loop-n.n c.loop-n-test.true))

pub loop-n-preserved : goal.loop-n-preserved
loop-n-preserved c = below_more _ _ c.loop-n.invariant (decided_true c.is_linked.ensures c.if-not-is_linked.false)

pub returns : goal.returns
returns c = holds (λ m l. c.loop-n.invariant m (omega arith))
