use mathlib.Core.Path.{◌≡◌}
use Rattle.table.specs.Held.{edges_from}
use Rattle.diagram.specs.Pieces.{select}
use Rattle.table.proofs.Scan.{rest}
use Rattle.table.proofs.read.choose.Given as goal

-- `read::choose` meets its contract. Assumes nothing.
abbrev pub invariant-loop-j : goal.invariant-loop-j
invariant-loop-j l = select (edges_from l.children l.cuts l.e l.end) l.p ≡ rest l.children l.cuts l.p l.e l.end l.j
