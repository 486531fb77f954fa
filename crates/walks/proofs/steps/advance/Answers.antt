use mathlib.Core.Path.{refl, sym, ◌∙◌}
use Rattle.std.specs.Cmp.{ranked}
use Rattle.std.specs.declared.cmp.Ordering.TheVariants.{Less, Equal, Greater}
use Rattle.walks.specs.Walking.{stopped, left, right, level}
use Rattle.walks.proofs.steps.advance.Goals as goal

pub returns-then-slot-ge-MOST_EDGES : goal.returns-then-slot-ge-MOST_EDGES
returns-then-slot-ge-MOST_EDGES c = stopped (λ _. c.if-slot-ge-MOST_EDGES.true)

pub returns-in-Less : goal.returns-in-Less
returns-in-Less c = left refl c.if-slot-ge-MOST_EDGES.false (ranked _ _ Less (sym c.in-Less.is ∙ c.cmp.ensures))

pub returns-in-Greater : goal.returns-in-Greater
returns-in-Greater c = right refl c.if-slot-ge-MOST_EDGES.false (ranked _ _ Greater (sym c.in-Greater.is ∙ c.cmp.ensures))

pub returns-in-Equal : goal.returns-in-Equal
returns-in-Equal c = level refl c.if-slot-ge-MOST_EDGES.false (ranked _ _ Equal (sym c.in-Equal.is ∙ c.cmp.ensures))
