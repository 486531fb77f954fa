use mathlib.Core.Path.{refl}
use Rattle.std.proofs.lemmas.Result.{err_from_is_err_and}
use Rattle.making.specs.Working.{stored}
use Rattle.views.specs.Seeing.{Views}
use Rattle.views.proofs.Sights.{sees_views}
use Rattle.walks.proofs.Composing.{lent_readable}
use Rattle.clipping.proofs.Variables.{is_variable}
use Rattle.changes.proofs.Bottom.{widen_buildable, widen_settles, widen_full, outcome_as}
use Rattle.changes.proofs.widening.WideningChange.here.Goals as goal
use Rattle.changes.proofs.widening.WideningChange.here.Goals.{After-view_at-a}

-- Widening at its variable meets its contract: the node of the edges inside and FALSE outside, or that there would be a 65th edge.
-- Assumes nothing.
sees : (c : After-view_at-a) → Views (stored c.args.table.now) c.args.table.now.used.nodes c.args.self.now.variable c.args.id.0 c.view_at-a.result
sees c = sees_views (lent_readable c.requires.0) _ c.requires.1 (is_variable c.args.self.now.of_range) (rw c.read-words.ensures.nodes at c.view_at-a.ensures)

pub returns-in_err-es-clause-gives : goal.returns-in_err-es-clause-gives
returns-in_err-es-clause-gives c = rw (err_from_is_err_and c.from_residual.result c.from_residual.ensures.1).1 (widen_full c.requires.0 (sees (goal.at.returns-in_err-es-clause-gives c).After-view_at-a) c.requires.1 c.requires.2 c.args.self.now.of_range _ c.args.self.now.on_line.0 c.args.self.now.on_line.1 (rw (c.read-words.ensures.children, c.read-words.ensures.cuts) at c.in_err-es.ensures) refl _)

pub settle-requires : goal.settle-requires
settle-requires c = (c.requires.0, widen_buildable c.requires.0 (sees (goal.at.settle-requires c).After-view_at-a) c.requires.1 c.requires.2 c.args.self.now.of_range _ c.args.self.now.on_line.0 c.args.self.now.on_line.1 (rw (c.read-words.ensures.children, c.read-words.ensures.cuts) at c.in_ok-es.ensures) refl)

pub returns-clause-gives : goal.returns-clause-gives
returns-clause-gives c = outcome_as c.settle.ensures.makes.outcome (widen_settles c.requires.0 (sees (goal.at.returns-clause-gives c).After-view_at-a) c.requires.1 c.requires.2 c.args.self.now.of_range _ c.args.self.now.on_line.0 c.args.self.now.on_line.1 (rw (c.read-words.ensures.children, c.read-words.ensures.cuts) at c.in_ok-es.ensures) refl)
