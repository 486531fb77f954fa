use mathlib.Core.Path.{sym}
use native.Mathlib.Omega.{arith}
use Rattle.ids.specs.Id.{sign}
use Rattle.making.proofs.Hashing.{hash_none, hash_more}
use Rattle.making.proofs.edges.hash_edges.Goals as goal

pub loop-j-init : goal.loop-j-init
loop-j-init g c = (omega (arith, c.requires.1), sym (hash_none c.args.v (sign c.args.lead.0) (g.E.EdgeList.edges c.args.es.now) (omega (arith, c.requires.1))))

pub loop-j-preserved : goal.loop-j-preserved
loop-j-preserved g c = (c.mixed-h.ensures.1, hash_more c.args.v (sign c.args.lead.0) (g.E.EdgeList.edges c.args.es.now) c.loop-j.j c.edge-e.ensures c.count-count.ensures c.loop-j.invariant.1 c.negate-c.ensures c.key_of.ensures c.mixed-h.ensures.0)
