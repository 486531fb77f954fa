use Prim.Native.Nat.{◌≤◌, ◌/◌}
use mathlib.Core.Path.{◌≡◌}
use Rattle.table.specs.Held.{held}
use Rattle.table.specs.Checking.{spots, Legible}
use Rattle.diagram.specs.Table.{value}
use Rattle.table.specs.Lending.{store_in}
use Rattle.table.proofs.read.reads.Given as goal

-- `read::reads` meets its contract. Assumes nothing.
abbrev pub invariant-loop-at : goal.invariant-loop-at
invariant-loop-at l = (h : Legible (store_in l.table) l.initial.at.0) → (l.at.0 / 2 ≤ h.used) × (value (held (store_in l.table) h.used) (spots l.places l.bools) l.initial.at.0 ≡ value (held (store_in l.table) h.used) (spots l.places l.bools) l.at.0)

abbrev pub decreases-loop-at : goal.decreases-loop-at
decreases-loop-at l = l.at.0 / 2
