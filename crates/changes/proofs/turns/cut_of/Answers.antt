use mathlib.Core.Path.{sym, ◌∙◌}
use Rattle.views.proofs.Sights.{cut_seen_range, cut_seen_bool}
use Rattle.changes.proofs.turns.cut_of.Goals as goal

-- `turns::cut_of` meets its contract. Assumes nothing.
pub returns-then-u-lt-FIRST_BOOLEAN : goal.returns-then-u-lt-FIRST_BOOLEAN
returns-then-u-lt-FIRST_BOOLEAN c = λ g. c.cut.ensures.0 g ∙ sym (cut_seen_range c.args.cuts.now c.args.u c.args.a c.args.i c.if-u-lt-FIRST_BOOLEAN.true)

pub returns-else-u-lt-FIRST_BOOLEAN : goal.returns-else-u-lt-FIRST_BOOLEAN
returns-else-u-lt-FIRST_BOOLEAN c = λ g. sym (cut_seen_bool c.args.cuts.now c.args.u c.args.a c.args.i c.if-u-lt-FIRST_BOOLEAN.false)
