use Prim.Native.Nat.{ℕ, ◌<◌, ◌≤◌}
use mathlib.Core.Path.{◌≡◌}
use lib.ListN.{length}
use Rattle.table.specs.Layout.{start}
use Rattle.table.specs.Lending.{store_in}
use Rattle.table.specs.Checking.{Recorded}
use Rattle.table.proofs.sound.judge.Given as goal

-- `sound::judge` meets its contract. Assumes nothing.
abbrev pub invariant-loop-n : goal.invariant-loop-n
invariant-loop-n l = (l.used.nodes ≡ l.n) × (l.used.edges ≡ start l.table.nodes.now l.n) × (l.used.edges ≤ length l.table.children.now) × ((m : ℕ) → m < l.n → Recorded (store_in l.table) l.table.index.now m)
