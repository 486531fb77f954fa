use Rattle.clipping.proofs.Copying.{Copying}
use Rattle.clipping.proofs.narrowed.Given as goal

-- `narrowed` meets its contract. Assumes nothing.
abbrev pub invariant-loop-i : goal.invariant-loop-i
invariant-loop-i l = Copying l.children l.cuts l.a l.high l.initial.i l.out l.i
