use Prim.Native.Nat.{◌-◌}
use native.Mathlib.Omega.{arith}
use mathlib.Core.Path.{ap}
use Rattle.std.specs.Ordering.{ordering_index}
use Rattle.ids.specs.Id.{sign}
use Rattle.making.specs.Seeking.{rest_in}
use Rattle.making.proofs.Hashing.{hash_in_lt}
use Rattle.making.proofs.Fronts.{front_in_lem}
use Rattle.making.proofs.Finding.{find_none, find_within, find_count, find_same, find_passed, find_stopped}
use Rattle.making.proofs.chain.find.Goals as goal

pub seek-s-requires : goal.seek-s-requires
seek-s-requires g c = (c.requires.0, omega (arith, c.requires.3, hash_in_lt c.args.v (sign c.args.lead.0) (g.E.EdgeList.edges c.args.es.now) (g.E.EdgeList.edges c.args.es.now).len), record { used = c.requires.1.used; sound = c.requires.1.sound; rest = (rest_in c.args.v (sign c.args.lead.0) (g.E.EdgeList.edges c.args.es.now)); passed = λ m e. absurd (omega arith) })

pub rest_compared-requires : goal.rest_compared-requires
rest_compared-requires g c = let w = find_within c.requires.1.sound c.requires.0.some_nodes c.args.v (sign c.args.lead.0) (g.E.EdgeList.edges c.args.es.now) c.requires.2 c.requires.1.buildable.reduced c.requires.3 (front_in_lem c.args.v (sign c.args.lead.0) (g.E.EdgeList.edges c.args.es.now) (rw (c.count.ensures, c.edge.ensures, c.edge-2.ensures) at c.front_of-f.ensures)) (c.loop-s.invariant c.requires.1.used c.requires.1.sound) c.loop-s-test.true in (omega (arith, c.loop-s-test.true, c.requires.0.whole, c.requires.1.sound.records.fits), c.requires.0.cut_each, c.requires.1.sound.records.rules (c.loop-s.s.at - 1) (omega (arith, c.loop-s-test.true)), c.requires.1.buildable.building, c.requires.2, find_count c.requires.1.sound c.requires.0.some_nodes c.args.v (sign c.args.lead.0) (g.E.EdgeList.edges c.args.es.now) c.requires.2 c.requires.1.buildable.reduced c.requires.3 (front_in_lem c.args.v (sign c.args.lead.0) (g.E.EdgeList.edges c.args.es.now) (rw (c.count.ensures, c.edge.ensures, c.edge-2.ensures) at c.front_of-f.ensures)) (c.loop-s.invariant c.requires.1.used c.requires.1.sound) c.loop-s-test.true)

pub returns-in-Equal : goal.returns-in-Equal
returns-in-Equal g c = λ u z. find_same z c.requires.0.some_nodes c.args.v (sign c.args.lead.0) (g.E.EdgeList.edges c.args.es.now) c.requires.2 c.requires.1.buildable.reduced c.requires.3 (front_in_lem c.args.v (sign c.args.lead.0) (g.E.EdgeList.edges c.args.es.now) (rw (c.count.ensures, c.edge.ensures, c.edge-2.ensures) at c.front_of-f.ensures)) (c.loop-s.invariant u z) c.loop-s-test.true (c.rest_compared.ensures.same (ap ordering_index c.in-Equal.is))

pub returns-in-Greater : goal.returns-in-Greater
returns-in-Greater g c = λ u z. rw c.between.ensures (find_stopped z c.requires.0.some_nodes c.args.v (sign c.args.lead.0) (g.E.EdgeList.edges c.args.es.now) c.requires.2 c.requires.1.buildable.reduced c.requires.3 (front_in_lem c.args.v (sign c.args.lead.0) (g.E.EdgeList.edges c.args.es.now) (rw (c.count.ensures, c.edge.ensures, c.edge-2.ensures) at c.front_of-f.ensures)) (c.loop-s.invariant u z) c.loop-s-test.true c.rest_compared.ensures (let e = ap ordering_index c.in-Greater.is in omega arith))

pub seek-s-requires-in-Less : goal.seek-s-requires-in-Less
seek-s-requires-in-Less g c = (c.requires.0, omega (arith, c.requires.3, hash_in_lt c.args.v (sign c.args.lead.0) (g.E.EdgeList.edges c.args.es.now) (g.E.EdgeList.edges c.args.es.now).len), record { used = c.requires.1.used; sound = c.requires.1.sound; rest = (rest_in c.args.v (sign c.args.lead.0) (g.E.EdgeList.edges c.args.es.now)); passed = find_passed c.requires.1.sound c.requires.0.some_nodes c.args.v (sign c.args.lead.0) (g.E.EdgeList.edges c.args.es.now) c.requires.2 c.requires.1.buildable.reduced c.requires.3 (front_in_lem c.args.v (sign c.args.lead.0) (g.E.EdgeList.edges c.args.es.now) (rw (c.count.ensures, c.edge.ensures, c.edge-2.ensures) at c.front_of-f.ensures)) (c.loop-s.invariant c.requires.1.used c.requires.1.sound) c.loop-s-test.true c.rest_compared.ensures (ap ordering_index c.in-Less.is) })

pub loop-s-preserved : goal.loop-s-preserved
loop-s-preserved g c = λ u z. c.seek-s-in-Less.ensures.sought u z (rest_in c.args.v (sign c.args.lead.0) (g.E.EdgeList.edges c.args.es.now)) (find_passed z c.requires.0.some_nodes c.args.v (sign c.args.lead.0) (g.E.EdgeList.edges c.args.es.now) c.requires.2 c.requires.1.buildable.reduced c.requires.3 (front_in_lem c.args.v (sign c.args.lead.0) (g.E.EdgeList.edges c.args.es.now) (rw (c.count.ensures, c.edge.ensures, c.edge-2.ensures) at c.front_of-f.ensures)) (c.loop-s.invariant u z) c.loop-s-test.true c.rest_compared.ensures (ap ordering_index c.in-Less.is))

pub returns : goal.returns
returns g c = λ u z. find_none z c.requires.0.some_nodes c.args.v (sign c.args.lead.0) (g.E.EdgeList.edges c.args.es.now) c.requires.2 c.requires.1.buildable.reduced c.requires.3 (front_in_lem c.args.v (sign c.args.lead.0) (g.E.EdgeList.edges c.args.es.now) (rw (c.count.ensures, c.edge.ensures, c.edge-2.ensures) at c.front_of-f.ensures)) (c.loop-s.invariant u z) (omega arith)
