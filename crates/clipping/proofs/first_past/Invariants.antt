use Rattle.clipping.proofs.Passing.{Passing}
use Rattle.clipping.proofs.first_past.Given as goal

-- `first_past` meets its contract. Assumes nothing.
abbrev pub invariant-loop-i : goal.invariant-loop-i
invariant-loop-i l = Passing l.cuts l.a l.lo l.i
