use Prim.Native.Nat.{◌/◌}
use mathlib.Core.Path.{refl, ap, ◌∙◌}
use native.Mathlib.Omega.{arith}
use Rattle.ids.specs.Id.{sign}
use Rattle.ids.proofs.Signs.{ref_under}
use Rattle.table.proofs.Scan.{step}
use Rattle.table.proofs.read.reads.Goals as goal

pub next_of-c-requires : goal.next_of-c-requires
next_of-c-requires c = let l = c.requires.3 in
    let i = (c.loop-at.invariant l).0 in
    (omega (arith, l.records.fits, i), c.requires.1, c.requires.2, l.records.rules _ (omega (arith, i)))

pub loop-at-preserved : goal.loop-at-preserved
loop-at-preserved c = λ l. (
  omega (arith, c.next_of-c.ensures.earlier, ap (λ x. x / 2) c.negate-at.ensures, ref_under (sign c.loop-at.at.0) c.next_of-c.result, (c.loop-at.invariant l).0),
  (c.loop-at.invariant l).1 ∙ step _ refl c.loop-at-test.true (c.loop-at.invariant l).0 c.next_of-c.ensures c.negate-at.ensures,
)

-- the table has one number of records
