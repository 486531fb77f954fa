use mathlib.Core.Path.{sym, ◌∙◌, ap}
use Rattle.ids.specs.Id.{sign, under}
use Rattle.views.proofs.Sights.{child_seen_own, child_seen_kid}
use Rattle.views.proofs.child.Goals as goal

-- `child` meets its contract. Assumes nothing.
pub returns-then-w-eq1 : goal.returns-then-w-eq1
returns-then-w-eq1 c = let the-args = c.args in
    sym (child_seen_own the-args.children.now the-args.w the-args.j c.if-w-eq1.true)

pub returns : goal.returns
returns c = let the-args = c.args in
    c.negate.ensures ∙ (ap (under (sign the-args.w.id.0)) c.child_at.ensures.0 ∙ sym (child_seen_kid the-args.children.now the-args.w the-args.j c.if-w-eq1.false))
