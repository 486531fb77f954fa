use Prim.Native.Nat.{◌<◌}
use mathlib.Core.Path.{◌≡◌}
use Rattle.ids.specs.Id.{sign}
use Rattle.making.specs.Building.{hash_in}
use Rattle.making.proofs.edges.hash_edges.Given as goal

-- `edges::hash_edges` meets its contract. Assumes nothing.
abbrev pub invariant-loop-j : goal.invariant-loop-j
invariant-loop-j g l = (l.h < 4294967296) × (l.h ≡ hash_in l.v (sign l.lead.0) (g.E.EdgeList.edges l.es) l.j)
