use Prim.Native.Nat.{◌*◌}
use Rattle.memo.specs.Recalling.{Kept}
use Rattle.memo.proofs.spread.Given as goal

-- `spread` only moves words. Assumes nothing.
abbrev pub invariant-loop-i : goal.invariant-loop-i
invariant-loop-i l = Kept l.initial.memo (l.sets * 4 * 8) l.memo
