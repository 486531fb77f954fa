use mathlib.Core.Path.{◌≡◌, refl}
use Prim.Native.Nat.{◌-◌}
use native.Mathlib.Omega.{arith}
use Rattle.views.specs.Seeing.{beyond}
use Rattle.clipping.proofs.Passing.{pass_next, pass_done}
use Rattle.clipping.proofs.first_past.Goals as goal

pub loop-i-preserved : goal.loop-i-preserved
loop-i-preserved c = pass_next c.requires.1 c.loop-i.invariant c.cut.ensures.0 c.cut.ensures.1 (omega arith)

pub returns-then-lo-cut : goal.returns-then-lo-cut
returns-then-lo-cut c = pass_done c.requires.1 c.loop-i.invariant c.cut.ensures.0 c.cut.ensures.1 (omega arith)

pub returns : goal.returns
returns c = let e : c.loop-i.i ≡ c.args.a.count - 1 = omega arith in
    rw e at (pass_done {k = beyond} c.requires.1 c.loop-i.invariant (λ m. absurd (omega arith)) (λ m. refl) (omega (arith, c.requires.1)))
