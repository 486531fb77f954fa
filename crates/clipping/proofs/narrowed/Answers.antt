use mathlib.Core.Path.{sym, ◌∙◌, ap}
use Rattle.algebra.specs.Changing.{cut_above}
use Rattle.clipping.proofs.Copying.{copied}
use Rattle.clipping.proofs.narrowed.Goals as goal

pub returns-then-high-k : goal.returns-then-high-k
returns-then-high-k c = let d = copied c.requires.0 c.loop-i.invariant c.requires.3 c.new.ensures c.cut-k.ensures.0 c.cut-k.ensures.1 c.child.ensures c.if-high-k.true in
    (d.0, λ v r. d.1 v r ∙ ap (cut_above c.args.range.last) (sym (c.first_past-i.ensures.1 c.args.children.now v r)))
