use Prim.Native.Nat.{◌≤◌}
use Rattle.memo.proofs.first_sets.Given as goal

-- `first_sets` divides by four, and 33 is more than four. Assumes nothing.
abbrev pub invariant-loop-sets : goal.invariant-loop-sets
invariant-loop-sets l = (1 ≤ l.sets) × (l.sets ≤ l.most)

abbrev pub decreases-loop-sets : goal.decreases-loop-sets
decreases-loop-sets l = l.sets
