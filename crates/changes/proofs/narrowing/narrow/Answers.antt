use Rattle.ranges.proofs.Ends.{held_keyed}
use Rattle.walks.proofs.Finished.{worked_adds_nothing}
use Rattle.changes.proofs.Bounds.{narrow_bounded, narrow_all}
use Rattle.changes.proofs.narrowing.narrow.Goals as goal

-- `narrowing::narrow` meets its contract: the id with both ends open, else the change by the range. Assumes nothing.
pub returns-then-both_open-clause-works : goal.returns-then-both_open-clause-works
returns-then-both_open-clause-works c = worked_adds_nothing c.requires.0 c.requires.2 _ (narrow_all c.requires.0 _ _ c.requires.3 c.requires.4 (c.both_open.ensures c.if-both_open.true))

pub returns-clause-works : goal.returns-clause-works
returns-clause-works c = rw (narrow_bounded c.from_bounds-range.ensures (held_keyed c.args.lower c.well_formed.1.1.1.1.0) (held_keyed c.args.upper c.well_formed.1.1.1.1.1.0) _ _ _) at c.changed.ensures.works
