use Rattle.making.specs.Working.{table_in}
use Rattle.views.proofs.Sights.{sees_views}
use Rattle.walks.proofs.Composing.{outcome_adds_nothing, lent_readable}
use Rattle.changes.proofs.Restricting.{chosen_is, chosen_here}
use Rattle.changes.proofs.restriction.RestrictionChange.here.Goals as goal

-- Restriction at its variable meets its contract: the child of the value. Assumes nothing.
pub returns-clause-gives : goal.returns-clause-gives
returns-clause-gives c =
    let s = c.args.self.now in
    let view = sees_views (lent_readable c.requires.0) _ c.requires.1 s.boolean.1 (rw c.read-words.ensures.nodes at c.view_at-here.ensures) in
    outcome_adds_nothing c.requires.0 _ (chosen_here (table_in c.args.table.now) s.variable s.value c.args.id.0 _ (chosen_is (lent_readable c.requires.0) c.requires.1 s.boolean.0 s.boolean.1 view s.value (rw c.read-words.ensures.children at c.child.ensures) c.edge_of.ensures))
