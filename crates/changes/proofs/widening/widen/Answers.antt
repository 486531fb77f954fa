use Rattle.ranges.proofs.Ends.{held_keyed}
use Rattle.ranges.proofs.Holds.{range_last_lt_first, range_first_le_last}
use Rattle.walks.proofs.Finished.{worked_adds_nothing}
use Rattle.changes.proofs.Bounds.{widen_bounded, widen_all, widen_none}
use Rattle.changes.proofs.widening.widen.Goals as goal

-- `widening::widen` meets its contract: the id with both ends open, FALSE by empty bounds, else the change by the range. Assumes nothing.
pub returns-then-both_open-clause-works : goal.returns-then-both_open-clause-works
returns-then-both_open-clause-works c = worked_adds_nothing c.requires.0 c.requires.2 _ (widen_all c.requires.0 _ _ c.requires.3 c.requires.4 (c.both_open.ensures c.if-both_open.true))

pub returns-then-is_empty-clause-works : goal.returns-then-is_empty-clause-works
returns-then-is_empty-clause-works c = worked_adds_nothing c.requires.0 c.requires.2 _ (widen_none c.requires.0 _ _ c.requires.3 c.requires.4 c.from_bounds-range.ensures (held_keyed c.args.lower c.well_formed.1.1.1.1.0) (held_keyed c.args.upper c.well_formed.1.1.1.1.1.0) (range_last_lt_first c.is_empty.ensures c.if-is_empty.true))

pub returns-clause-works : goal.returns-clause-works
returns-clause-works c = rw (widen_bounded c.from_bounds-range.ensures (held_keyed c.args.lower c.well_formed.1.1.1.1.0) (held_keyed c.args.upper c.well_formed.1.1.1.1.1.0) _ _ _ (range_first_le_last c.is_empty.ensures c.if-is_empty.false)) at c.changed.ensures.works
