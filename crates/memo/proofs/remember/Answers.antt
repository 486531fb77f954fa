use Rattle.memo.proofs.Recalled.{put_noted}
use Rattle.memo.proofs.remember.Goals as goal

pub returns : goal.returns
returns c = put_noted c.sets_for_one_more-sets.ensures c.entry_of.ensures c.put.ensures
