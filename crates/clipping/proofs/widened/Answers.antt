use mathlib.Core.Path.{refl}
use Prim.Native.Nat.{◌+◌}
use native.Mathlib.Omega.{arith}
use Rattle.clipping.proofs.Closing.{clips_over}
use Rattle.clipping.proofs.Widening.{AllPut, widen_none, widen_over, widen_next, widen_last, widen_closed, widened_wanted}
use Rattle.clipping.proofs.widened.Goals as goal
use Rattle.clipping.proofs.widened.Goals.{Left-loop-i, else-loop-i-test, then-loop-i-test+else-n-ge-MOST_EDGES+then-end-k}

pub loop-i-init : goal.loop-i-init
loop-i-init c = widen_none c.args.children.now c.args.cuts.now c.args.a c.args.range.first c.args.range.last c.new-out.result c.new-out.ensures.0 c.new.ensures refl c.min.result c.min.ensures c.first_past-i.result c.first_past-i.ensures.0 (c.first_past-i.ensures.1 c.args.children.now 0 (omega arith))

pub returns-then-n-ge-MOST_EDGES : goal.returns-then-n-ge-MOST_EDGES
returns-then-n-ge-MOST_EDGES c = widened_wanted c.args.children.now c.args.cuts.now c.args.a c.args.range.first c.args.range.last c.args.range.last refl c.requires.2 c.requires.3 (clips_over (widen_over c.loop-i.invariant c.child-c.ensures c.slot_for-n.ensures c.if-n-ge-MOST_EDGES.true))

pub loop-i-preserved : goal.loop-i-preserved
loop-i-preserved c = widen_next c.loop-i.invariant c.child-c.ensures c.slot_for-n.ensures c.requires.3 c.if-n-ge-MOST_EDGES.false c.cut-k.ensures.0 c.cut-k.ensures.1 (rw c.min-in-loop-i.ensures at c.new-in-loop-i.ensures) (omega arith)

all_put : (c : Left-loop-i) → AllPut c.args.children.now c.args.cuts.now c.args.a c.args.range.first c.args.range.last c.loop-i-test.out c.loop-i-test.out.len c.loop-i-test.last
all_put c = elim c.loop-i-test.branch [
  | else-loop-i-test w ↦ absurd (omega (arith, c.loop-i.invariant.inside))
  | then-loop-i-test+else-n-ge-MOST_EDGES+then-end-k w ↦ rw (w.out-is, w.last-is) (widen_last c.loop-i.invariant w.child-c.ensures w.slot_for-n.ensures c.requires.3 w.if-n-ge-MOST_EDGES.false w.cut-k.ensures.0 w.cut-k.ensures.1 (rw w.min-in-loop-i.ensures at w.new-in-loop-i.ensures) (omega arith))
]

pub returns : goal.returns
returns c = widened_wanted c.args.children.now c.args.cuts.now c.args.a c.args.range.first c.args.range.last c.args.range.last refl c.requires.2 c.requires.3 (widen_closed (all_put (goal.at.returns c).Left-loop-i) (c.args.range.last + 1) refl c.closed.ensures)
