use Rattle.conditions.proofs.Wanted.{range_wanted, creates_equal_want}
use Rattle.conditions.proofs.from_range.Goals as goal

-- `conditions::from_range` meets its contract. Assumes nothing.
pub returns-clause-makes : goal.returns-clause-makes
returns-clause-makes c = creates_equal_want c.within.ensures.makes (range_wanted _ _ c.from_bounds.ensures)
