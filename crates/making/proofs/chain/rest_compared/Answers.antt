use mathlib.Core.Path.{◌∙◌}
use native.Mathlib.Omega.{arith}
use Rattle.ids.specs.Id.{sign}
use Rattle.table.specs.Layout.{store}
use Rattle.making.proofs.Hashing.{key_is}
use Rattle.making.proofs.Fronts.{edges_done, edges_decided, edges_further, tested_same, tested_other}
use Rattle.making.proofs.chain.rest_compared.Goals as goal

pub returns-then-is_ne : goal.returns-then-is_ne
returns-then-is_ne g c = c.loop-j.invariant.2 _ (edges_decided (store c.args.table.now.nodes.now c.args.table.now.children.now c.args.table.now.cuts.now) c.args.n c.args.v (sign c.args.lead.0) (g.E.EdgeList.edges c.args.es.now) c.loop-j.j (rw c.count-count.ensures at c.loop-j-test.true) c.first_of-first.ensures.0 (rw c.edge-e.ensures at c.negate-c.ensures) ((rw (c.count-count.ensures, c.edge-e.ensures) at c.key_of.ensures) ∙ key_is c.args.v c.loop-j.j (g.E.EdgeList.edges c.args.es.now)) c.edge_compared-by_edge.ensures (tested_other _ c.is_ne.ensures c.if-is_ne.true))

pub loop-j-preserved : goal.loop-j-preserved
loop-j-preserved g c = (omega (arith, c.loop-j.invariant.0), omega arith, λ o w. c.loop-j.invariant.2 o (edges_further (store c.args.table.now.nodes.now c.args.table.now.children.now c.args.table.now.cuts.now) c.args.n c.args.v (sign c.args.lead.0) (g.E.EdgeList.edges c.args.es.now) c.loop-j.j (rw c.count-count.ensures at c.loop-j-test.true) c.first_of-first.ensures.0 (rw c.edge-e.ensures at c.negate-c.ensures) ((rw (c.count-count.ensures, c.edge-e.ensures) at c.key_of.ensures) ∙ key_is c.args.v c.loop-j.j (g.E.EdgeList.edges c.args.es.now)) c.edge_compared-by_edge.ensures (tested_same _ c.is_ne.ensures c.if-is_ne.false) w))

pub returns : goal.returns
returns g c = c.loop-j.invariant.2 1 (edges_done (store c.args.table.now.nodes.now c.args.table.now.children.now c.args.table.now.cuts.now) c.args.n c.args.v (sign c.args.lead.0) (g.E.EdgeList.edges c.args.es.now) c.loop-j.j (omega arith))
