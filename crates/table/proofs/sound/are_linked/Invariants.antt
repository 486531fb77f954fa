use Prim.Native.Nat.{ℕ, ◌<◌}
use Rattle.table.specs.Lending.{store_in}
use Rattle.table.specs.Checking.{LinkedAt}
use Rattle.table.proofs.sound.are_linked.Given as goal

-- `sound::are_linked` meets its contract. Assumes nothing.
abbrev pub invariant-loop-n : goal.invariant-loop-n
invariant-loop-n l = (m : ℕ) → m < l.n → LinkedAt (store_in l.table) l.table.index.now l.u m
