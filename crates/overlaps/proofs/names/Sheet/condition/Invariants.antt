use Rattle.std.proofs.Common.{length}
use Rattle.overlaps.proofs.names.Sheet.condition.Given as goal

-- `condition` ends: what is left of the line grows shorter.
abbrev pub decreases-loop-term : goal.decreases-loop-term
decreases-loop-term l = length l.words.rest.now
