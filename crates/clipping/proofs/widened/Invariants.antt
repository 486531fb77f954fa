use Rattle.clipping.proofs.Widening.{Widening}
use Rattle.clipping.proofs.widened.Given as goal

-- `widened` meets its contract. Assumes nothing.
abbrev pub invariant-loop-i : goal.invariant-loop-i
invariant-loop-i l = Widening l.children l.cuts l.a l.first l.fn.range.last l.out l.out.len l.last l.i
