use mathlib.Core.Path.{sym, ◌∙◌}
use Rattle.table.proofs.Laws.{decided_false}
use Rattle.making.proofs.Kept.{edges_inside}
use Rattle.making.proofs.Creating.{no_room, added_one}
use Rattle.making.proofs.nodes.extend.Goals as goal

-- `nodes::extend` meets its contract: one node more, or no room for it. Assumes nothing.
pub has_room-requires : goal.has_room-requires
has_room-requires g c = let l = c.requires.0 in rw (c.read-words.ensures.nodes, c.read-words.ensures.children, c.count.ensures) (l.sound.records.fits, l.allowed.nodes_at_most, edges_inside l, l.allowed.edges_at_most, c.requires.1.building.most)

pub returns-then-not-has_room-clause-makes : goal.returns-then-not-has_room-clause-makes
returns-then-not-has_room-clause-makes g c = no_room c.requires.0 c.args.v (g.E.EdgeList.edges c.args.es.now) c.requires.2 c.requires.3 (sym c.requires.5.at_is ∙ c.requires.6) (decided_false (rw (c.read-words.ensures.nodes, c.read-words.ensures.children, c.count.ensures) at c.has_room.ensures) c.if-not-has_room.true) _

pub returns-clause-makes : goal.returns-clause-makes
returns-clause-makes g c = added_one c.requires.0 c.args.v (g.E.EdgeList.edges c.args.es.now) c.requires.2 c.requires.3 (sym c.requires.5.at_is ∙ c.requires.6) c.add.ensures.added c.known.ensures
