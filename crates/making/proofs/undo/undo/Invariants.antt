use Prim.Native.Nat.{◌≤◌}
use Rattle.making.specs.Working.{SameSlices, TakesBack}
use Rattle.making.proofs.undo.undo.Given as goal

-- `undo::undo` meets its contract: one `pop` for each node above the mark. Assumes nothing.
abbrev pub invariant-loop-table : goal.invariant-loop-table
invariant-loop-table l = (l.keep ≤ l.table.used.nodes) × TakesBack l.table.used.nodes l.initial.table l.table × SameSlices l.initial.table l.table

abbrev pub decreases-loop-table : goal.decreases-loop-table
decreases-loop-table l = l.table.used.nodes
