use Rattle.memo.proofs.Recalled.{kept_same, moved_kept}
use Rattle.memo.proofs.move_word.Goals as goal

-- `move_word` takes a word out and writes it elsewhere. Assumes nothing.
pub returns-then-entry-eq0 : goal.returns-then-entry-eq0
returns-then-entry-eq0 c = kept_same _ _

pub returns : goal.returns
returns c = moved_kept _ c.requires.0 c.requires.1 c.requires.4 c.put.ensures
