use mathlib.Core.Path.{sym, ◌∙◌}
use native.Mathlib.Omega.{arith}
use Rattle.views.proofs.Sights.{cut_seen_position}
use Rattle.views.proofs.cut.Goals as goal

pub returns-then-j-w : goal.returns-then-j-w
returns-then-j-w c = (λ h. c.cut_position_at.ensures.0 ∙ sym (cut_seen_position c.args.cuts.now c.args.w c.args.j), λ h. absurd (omega (arith, c.if-j-w.true)), omega (arith, c.cut_position_at.ensures.1))
