use Rattle.ranges.proofs.Holds.{range_last_lt_first, range_first_le_last}
use Rattle.making.specs.Working.{stored}
use Rattle.views.specs.Seeing.{Views}
use Rattle.views.proofs.Sights.{sees_views}
use Rattle.walks.proofs.Composing.{outcome_adds_nothing, lent_readable}
use Rattle.clipping.proofs.Variables.{is_variable}
use Rattle.changes.proofs.Bottom.{narrow_kept, narrow_emptied, narrow_buildable, narrow_settles, outcome_as}
use Rattle.changes.proofs.narrowing.NarrowingChange.here.Goals as goal
use Rattle.changes.proofs.narrowing.NarrowingChange.here.Goals.{After-view_at-a}

-- Narrowing at its variable meets its contract: the id that does not test it, FALSE by an empty range, else the node of the edges inside.
-- Assumes nothing.
sees : (c : After-view_at-a) → Views (stored c.args.table.now) c.args.table.now.used.nodes c.args.self.now.variable c.args.id.0 c.view_at-a.result
sees c = sees_views (lent_readable c.requires.0) _ c.requires.1 (is_variable c.args.self.now.of_range) (rw c.read-words.ensures.nodes at c.view_at-a.ensures)

pub returns-then-a-eq1-clause-gives : goal.returns-then-a-eq1-clause-gives
returns-then-a-eq1-clause-gives c = outcome_adds_nothing c.requires.0 _ (narrow_kept c.requires.0 (sees (goal.at.returns-then-a-eq1-clause-gives c).After-view_at-a) c.requires.1 c.requires.2 c.args.self.now.of_range c.args.self.now.range c.if-a-eq1.true)

pub returns-then-is_empty-clause-gives : goal.returns-then-is_empty-clause-gives
returns-then-is_empty-clause-gives c = outcome_adds_nothing c.requires.0 _ (narrow_emptied c.requires.0 (sees (goal.at.returns-then-is_empty-clause-gives c).After-view_at-a) c.requires.1 c.requires.2 c.args.self.now.of_range _ c.if-a-eq1.false (range_last_lt_first c.is_empty.ensures c.if-is_empty.true))

pub settle-requires : goal.settle-requires
settle-requires c = (c.requires.0, narrow_buildable c.requires.0 (sees (goal.at.settle-requires c).After-view_at-a) c.requires.1 c.requires.2 c.args.self.now.of_range _ (range_first_le_last c.is_empty.ensures c.if-is_empty.false) c.args.self.now.on_line.1 (rw (c.read-words.ensures.children, c.read-words.ensures.cuts) at c.narrowed-es.ensures))

pub returns-clause-gives : goal.returns-clause-gives
returns-clause-gives c = outcome_as c.settle.ensures.makes.outcome (narrow_settles c.requires.0 (sees (goal.at.returns-clause-gives c).After-view_at-a) c.requires.1 c.requires.2 c.args.self.now.of_range _ (range_first_le_last c.is_empty.ensures c.if-is_empty.false) c.args.self.now.on_line.1 (rw (c.read-words.ensures.children, c.read-words.ensures.cuts) at c.narrowed-es.ensures))
