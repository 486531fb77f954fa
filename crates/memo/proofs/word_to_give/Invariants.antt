use Prim.Native.Nat.{◌+◌, ◌≤◌, ◌<◌}
use Rattle.memo.proofs.word_to_give.Given as goal

-- `word_to_give` stays behind the head and inside the set. Assumes nothing.
abbrev pub invariant-loop-i : goal.invariant-loop-i
invariant-loop-i l = (1 ≤ l.to) × (l.to < l.at + 8)
