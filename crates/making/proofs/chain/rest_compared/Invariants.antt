use Prim.Native.Nat.{ℕ, ◌≤◌}
use Rattle.ids.specs.Id.{sign}
use Rattle.table.specs.Layout.{store}
use Rattle.making.proofs.Fronts.{EdgesFrom}
use Rattle.making.proofs.chain.rest_compared.Given as goal

-- `chain::rest_compared` meets its contract: edge by edge, until one decides. Assumes nothing.
abbrev pub invariant-loop-j : goal.invariant-loop-j
invariant-loop-j g l = (2 ≤ l.j) × (l.j ≤ l.count) × ((o : ℕ) → EdgesFrom (store l.table.nodes.now l.table.children.now l.table.cuts.now) l.n l.v (sign l.lead.0) (g.E.EdgeList.edges l.es) l.j o → EdgesFrom (store l.table.nodes.now l.table.children.now l.table.cuts.now) l.n l.v (sign l.lead.0) (g.E.EdgeList.edges l.es) 2 o)
