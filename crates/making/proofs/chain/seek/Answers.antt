use mathlib.Core.Path.{◌∙◌, ap}
use Prim.Native.Nat.{ℕ, ◌-◌}
use native.Mathlib.Omega.{arith}
use lib.ListN.{get_or}
use Rattle.std.specs.Ordering.{ordering_index}
use Rattle.chains.specs.Row.{from}
use Rattle.table.specs.Layout.{room, store}
use Rattle.making.proofs.Walked.{going_from, going_starts, going_within, going_on, going_falls, seeks_node, seeks_stop, seeks_end, hash_low, hash_high, front_low, front_high, front_same, not_equal}
use Rattle.making.proofs.chain.seek.Goals as goal
use Rattle.making.proofs.chain.seek.Goals.{then-k-h+in-Less, else-k-h}

pub lead_from-requires : goal.lead_from-requires
lead_from-requires c = (c.requires.0.nodes_at_most, c.scaled.ensures.1, going_from (store c.args.table.now.nodes.now c.args.table.now.children.now c.args.table.now.cuts.now) c.args.table.now.index.now c.args.h c.args.f c.args.from c.requires.0.some_nodes c.requires.1 c.requires.2)

pub loop-at-init : goal.loop-at-init
loop-at-init c = going_starts (store c.args.table.now.nodes.now c.args.table.now.children.now c.args.table.now.cuts.now) c.args.table.now.index.now c.args.h c.args.f c.args.from c.requires.0.some_nodes c.requires.1 c.requires.2 (c.word-at.ensures.0 ∙ ap (λ (i : ℕ). get_or c.args.table.now.index.now i 0) (c.lead_from.ensures.0 ∙ ap (λ (b : ℕ). from (room c.args.table.now.nodes.now) b c.args.from) c.scaled.ensures.0))

pub overflow_add-rooms : goal.overflow_add-rooms
overflow_add-rooms c = let w = going_within (store c.args.table.now.nodes.now c.args.table.now.children.now c.args.table.now.cuts.now) c.args.table.now.index.now c.args.h c.args.f c.args.from c.requires.0.some_nodes c.requires.1 c.requires.2 c.loop-at.invariant c.loop-at-test.true in omega (arith, c.requires.0.nodes_at_most, c.requires.2.sound.records.fits)

pub word-k-requires : goal.word-k-requires
word-k-requires c = let w = going_within (store c.args.table.now.nodes.now c.args.table.now.children.now c.args.table.now.cuts.now) c.args.table.now.index.now c.args.h c.args.f c.args.from c.requires.0.some_nodes c.requires.1 c.requires.2 c.loop-at.invariant c.loop-at-test.true in omega (arith, c.loop-at-test.true, c.requires.0.indexed, c.requires.2.sound.records.fits)

pub returns-then-h-k : goal.returns-then-h-k
returns-then-h-k c = rw c.between.ensures (seeks_stop (store c.args.table.now.nodes.now c.args.table.now.children.now c.args.table.now.cuts.now) c.args.table.now.index.now c.args.h c.args.f c.args.from c.requires.0.some_nodes c.requires.1 c.requires.2 c.loop-at.invariant c.loop-at-test.true (λ u z l rest. hash_high z l c.word-k.ensures.0 c.args.h c.args.f rest c.if-h-k.true))

pub front_compared-requires : goal.front_compared-requires
front_compared-requires c = let w = going_within (store c.args.table.now.nodes.now c.args.table.now.children.now c.args.table.now.cuts.now) c.args.table.now.index.now c.args.h c.args.f c.args.from c.requires.0.some_nodes c.requires.1 c.requires.2 c.loop-at.invariant c.loop-at-test.true in (omega (arith, c.loop-at-test.true, c.requires.0.whole, c.requires.2.sound.records.fits), c.requires.0.cut_each, c.requires.2.sound.records.rules (c.loop-at.at - 1) (omega (arith, c.loop-at-test.true)))

pub returns-in-Equal : goal.returns-in-Equal
returns-in-Equal c = let w = going_within (store c.args.table.now.nodes.now c.args.table.now.children.now c.args.table.now.cuts.now) c.args.table.now.index.now c.args.h c.args.f c.args.from c.requires.0.some_nodes c.requires.1 c.requires.2 c.loop-at.invariant c.loop-at-test.true in seeks_node (store c.args.table.now.nodes.now c.args.table.now.children.now c.args.table.now.cuts.now) c.args.table.now.index.now c.args.h c.args.f c.args.from c.requires.0.some_nodes c.requires.1 c.requires.2 c.loop-at.invariant c.loop-at-test.true (front_same c.requires.2.sound (omega (arith, c.loop-at-test.true)) c.word-k.ensures.0 c.args.h c.args.f c.if-k-h.true c.front_compared.ensures (ap ordering_index c.in-Equal.is))

pub returns-in-Greater : goal.returns-in-Greater
returns-in-Greater c = rw c.between-in-Greater.ensures (seeks_stop (store c.args.table.now.nodes.now c.args.table.now.children.now c.args.table.now.cuts.now) c.args.table.now.index.now c.args.h c.args.f c.args.from c.requires.0.some_nodes c.requires.1 c.requires.2 c.loop-at.invariant c.loop-at-test.true (λ u z l rest. front_high z l c.word-k.ensures.0 c.args.h c.args.f c.if-k-h.true c.front_compared.ensures rest (let e = ap ordering_index c.in-Greater.is in omega arith)))

pub overflow_add-rooms-in-loop-at : goal.overflow_add-rooms-in-loop-at
overflow_add-rooms-in-loop-at c = let w = going_within (store c.args.table.now.nodes.now c.args.table.now.children.now c.args.table.now.cuts.now) c.args.table.now.index.now c.args.h c.args.f c.args.from c.requires.0.some_nodes c.requires.1 c.requires.2 c.loop-at.invariant c.loop-at-test.true in omega (arith, c.requires.0.nodes_at_most, c.requires.2.sound.records.fits)

pub word-at-requires-in-loop-at : goal.word-at-requires-in-loop-at
word-at-requires-in-loop-at c = let w = going_within (store c.args.table.now.nodes.now c.args.table.now.children.now c.args.table.now.cuts.now) c.args.table.now.index.now c.args.h c.args.f c.args.from c.requires.0.some_nodes c.requires.1 c.requires.2 c.loop-at.invariant c.loop-at-test.true in omega (arith, c.loop-at-test.true, c.requires.0.indexed, c.requires.2.sound.records.fits)

pub loop-at-smaller : goal.loop-at-smaller
loop-at-smaller c = going_falls (store c.args.table.now.nodes.now c.args.table.now.children.now c.args.table.now.cuts.now) c.args.table.now.index.now c.args.h c.args.f c.args.from c.requires.0.some_nodes c.requires.1 c.requires.2 c.loop-at.invariant c.loop-at-test.true c.word-at-in-loop-at.ensures.0

pub loop-at-preserved : goal.loop-at-preserved
loop-at-preserved c = going_on (store c.args.table.now.nodes.now c.args.table.now.children.now c.args.table.now.cuts.now) c.args.table.now.index.now c.args.h c.args.f c.args.from c.requires.0.some_nodes c.requires.1 c.requires.2 c.loop-at.invariant c.loop-at-test.true c.word-at-in-loop-at.ensures.0 (λ u z l rest. elim c.if-k-h.branch [
  | then-k-h+in-Less w ↦ front_low z l c.word-k.ensures.0 c.args.h c.args.f w.if-k-h.true w.front_compared.ensures rest (ap ordering_index w.in-Less.is)
  | else-k-h w ↦ hash_low z l c.word-k.ensures.0 c.args.h c.args.f rest (not_equal c.if-h-k.false w.if-k-h.false)
])

pub returns : goal.returns
returns c = rw c.between-2.ensures (seeks_end (store c.args.table.now.nodes.now c.args.table.now.children.now c.args.table.now.cuts.now) c.args.table.now.index.now c.args.h c.args.f c.args.from c.requires.0.some_nodes c.requires.1 c.requires.2 c.loop-at.invariant (omega arith))
