use Rattle.std.proofs.Common.{◌≤◌, length}
use Rattle.overlaps.proofs.text.behind_line.Given as goal

-- `behind_line` ends: what is left of the text grows shorter.
abbrev pub invariant-loop-rest : goal.invariant-loop-rest
invariant-loop-rest l = length l.rest ≤ length l.text

abbrev pub decreases-loop-rest : goal.decreases-loop-rest
decreases-loop-rest l = length l.rest
