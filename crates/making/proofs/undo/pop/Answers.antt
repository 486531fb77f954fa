use mathlib.Core.Path.{refl}
use Rattle.making.proofs.Popped.{splice_asks, popped}
use Rattle.making.proofs.undo.pop.Goals as goal

-- `undo::pop` meets its contract: the last node out of its chain, and its words blank. Assumes nothing.
pub splice-requires : goal.splice-requires
splice-requires c = splice_asks c.requires refl c.read-words.ensures.nodes c.read-words.ensures.index c.first_of-e.ensures.0 c.count_of-count.ensures.0 c.word-behind.ensures.0 c.word-before.ensures.0 c.word.ensures.0 c.scaled-bucket.ensures

pub returns-clause-takes : goal.returns-clause-takes
returns-clause-takes c = popped c.requires refl c.read-words.ensures.nodes c.read-words.ensures.index c.first_of-e.ensures.0 c.count_of-count.ensures.0 c.word-behind.ensures.0 c.word-before.ensures.0 c.word.ensures.0 c.scaled-bucket.ensures c.splice.ensures c.blank_edges.ensures c.put_record.ensures
