use mathlib.Core.Path.{ap}
use Rattle.making.specs.declared.edges.Edge.{Edge}
use Rattle.making.proofs.Creating.{hash_asks, ref_small, found_one}
use Rattle.making.proofs.nodes.find_or_add.Goals as goal

-- `nodes::find_or_add` meets its contract: the node found, or the table extended. Assumes nothing.
pub hash_edges-h-requires : goal.hash_edges-h-requires
hash_edges-h-requires g c = hash_asks c.requires.1

pub known-requires : goal.known-requires
known-requires g c =
    let found = (rw (c.read.ensures.nodes, c.read.ensures.children, c.read.ensures.cuts, c.read.ensures.index) at c.find-s.ensures) _ c.requires.0.sound in
    ref_small c.requires.0 c.args.v (g.E.EdgeList.edges c.args.es.now) _ _ found.at_is

pub returns-then-s-gt0-clause-makes : goal.returns-then-s-gt0-clause-makes
returns-then-s-gt0-clause-makes g c =
    let found = (rw (c.read.ensures.nodes, c.read.ensures.children, c.read.ensures.cuts, c.read.ensures.index) at c.find-s.ensures) _ c.requires.0.sound in
    found_one c.requires.0 c.args.v (g.E.EdgeList.edges c.args.es.now) c.requires.2 (ap (λ (e : Edge). e.child.0) c.edge.ensures) _ c.if-s-gt0.true found.at_is c.known.ensures
