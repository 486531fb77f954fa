use Rattle.conditions.proofs.Wanted.{range_buildable, range_settles, creates_equal_want}
use Rattle.conditions.proofs.within.Goals as goal

-- `conditions::within` meets its contract: `settle` on the edges of the range. Assumes nothing.
pub settle-requires : goal.settle-requires
settle-requires c = let pre· = c.requires in
    (pre·.0, range_buildable _ pre·.1 _ _ c.edges_of.ensures pre·.2)

pub returns-clause-makes : goal.returns-clause-makes
returns-clause-makes c = let pre· = c.requires in
    creates_equal_want c.settle.ensures.makes (range_settles _ pre·.1 _ _ c.edges_of.ensures pre·.2)
