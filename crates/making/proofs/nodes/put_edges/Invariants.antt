use Rattle.ids.specs.Id.{sign, under}
use Rattle.making.specs.Building.{child_in, cut_in}
use Rattle.making.specs.Storing.{EdgesWritten, stored_cut}
use Rattle.making.proofs.nodes.put_edges.Given as goal

-- `nodes::put_edges` meets its contract: the edges passed are stored. Assumes nothing.
abbrev pub invariant-loop-j : goal.invariant-loop-j
invariant-loop-j g l = EdgesWritten l.initial.children l.initial.cuts l.e l.j (λ i. under (sign l.lead.0) (child_in (g.E.EdgeList.edges l.es) i)) (λ i. stored_cut l.v i (g.E.EdgeList.edges l.es).len (cut_in (g.E.EdgeList.edges l.es) i)) l.children l.cuts
