use Rattle.memo.specs.Recalling.{Found}
use Rattle.memo.proofs.matching.Given as goal

-- `matching` keeps a word that it has read. Assumes nothing.
abbrev pub invariant-loop-w : goal.invariant-loop-w
invariant-loop-w l = Found l.memo l.pair l.found
