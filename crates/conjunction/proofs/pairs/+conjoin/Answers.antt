use mathlib.Core.Path.{refl, sym, ◌∙◌, ap, subst}
use mathlib.Core.Bool.{Bool, cond, not}
use Prim.Native.Nat.{ℕ, ◌≤◌, ◌<◌, ◌+◌}
use native.Mathlib.Omega.{arith}
use borrow.Author.Tests.{eq-eqb, ne_eqb}
use Rattle.views.proofs.Sights.{record_inside, call_left}
use Rattle.ids.specs.Id.{KnownTo}
use Rattle.memo.proofs.Recalled.{hit_was_noted, in_either_order}
use Rattle.making.specs.Working.{stored}
use Rattle.making.proofs.Answered.{no_room_made}
use Rattle.making.proofs.Same.{same_refl, same_trans}
use Rattle.walks.proofs.Composing.{ready_recalls, ready_readable, stepped_adds_nothing, stepped_with_note, ready_after_step, stepped_equal_want}
use Rattle.conjunction.proofs.Asking.{entry_ordered, entry_as_given, conj_walk, opened_is, recalled_is, entry_of, left_node, right_node, sides, both_is, note_asked}
use Rattle.conjunction.proofs.Ordering.{by_tests}
use Rattle.walks.proofs.Halves.{half_inside}
use Rattle.walks.proofs.Booleans.{inside_all_children, half_child_read, half_child_stays, first_asked, stepped_first_fails, second_asked, stepped_second_fails, both_are_children, stepped_pair_built}
use Rattle.walks.proofs.Ranging.{loop_starts, both_asked, slot_inside, sides_small, loop_falls, loop_step, closed_buildable, stepped_when_closed, stepped_merge_fails, stepped_no_child, slot_exists, loop_any_len}
use Rattle.conjunction.proofs.pairs.+conjoin.Goals as goal

pub apply-child-x-requires : goal.apply-child-x-requires
apply-child-x-requires t c = rw c.read-words.ensures.children (inside_all_children c.requires.0 c.requires.1.left refl, subst (λ (x : ℕ). x < c.args.a.count) (sym c.edge_of.ensures) (half_inside c.args.a.count c.requires.1.left.some _))

pub apply-child-y-requires : goal.apply-child-y-requires
apply-child-y-requires t c = rw c.read-words.ensures.children (inside_all_children c.requires.0 c.requires.1.right refl, subst (λ (x : ℕ). x < c.args.b.count) (sym c.edge_of-2.ensures) (half_inside c.args.b.count c.requires.1.right.some _))

pub apply-conjoin-requires : goal.apply-conjoin-requires
apply-conjoin-requires t c = let asked = first_asked (conj_walk _ _) c.requires.0 c.if-v-lt-FIRST_BOOLEAN.false c.requires.1 _ (half_child_read _ c.args.a _ (rw c.read-words.ensures.children at c.child-x.ensures) c.edge_of.ensures) (half_child_read _ c.args.b _ (rw c.read-words.ensures.children at c.child-y.ensures) c.edge_of-2.ensures) in (omega (arith, c.decreases), (c.requires.0, asked.0, asked.1))

pub apply-returns-in_err-one-clause-steps : goal.apply-returns-in_err-one-clause-steps
apply-returns-in_err-one-clause-steps t c = rw (no_room_made _ c.conjoin.new.table.used c.from_residual.ensures.0) (by_tests c.args.table.now.used (stored c.args.table.now) c.args.memo.now c.args.a c.args.b c.args.v c.args.ahead c.if-v-lt-FIRST_BOOLEAN.false (stepped_first_fails (conj_walk _ _) c.requires.0 c.if-v-lt-FIRST_BOOLEAN.false c.requires.1 _ (half_child_read _ c.args.a _ (rw c.read-words.ensures.children at c.child-x.ensures) c.edge_of.ensures) (half_child_read _ c.args.b _ (rw c.read-words.ensures.children at c.child-y.ensures) c.edge_of-2.ensures) c.in_err-one.ensures.steps refl))

pub apply-child-x-requires-2 : goal.apply-child-x-requires-2
apply-child-x-requires-2 t c = rw c.read-words-2.ensures.children (inside_all_children c.requires.0 c.requires.1.left c.in_ok-one.ensures.steps.outcome.stays.wide, subst (λ (x : ℕ). x < c.args.a.count) (sym c.edge_of-3.ensures) (half_inside c.args.a.count c.requires.1.left.some _))

pub apply-child-y-requires-2 : goal.apply-child-y-requires-2
apply-child-y-requires-2 t c = rw c.read-words-2.ensures.children (inside_all_children c.requires.0 c.requires.1.right c.in_ok-one.ensures.steps.outcome.stays.wide, subst (λ (x : ℕ). x < c.args.b.count) (sym c.edge_of-4.ensures) (half_inside c.args.b.count c.requires.1.right.some _))

pub apply-conjoin-requires-2 : goal.apply-conjoin-requires-2
apply-conjoin-requires-2 t c = let asked = second_asked (conj_walk _ _) c.requires.0 c.if-v-lt-FIRST_BOOLEAN.false c.requires.1 _ (half_child_read _ c.args.a _ (rw c.read-words.ensures.children at c.child-x.ensures) c.edge_of.ensures) (half_child_read _ c.args.b _ (rw c.read-words.ensures.children at c.child-y.ensures) c.edge_of-2.ensures) c.in_ok-one.ensures.steps (half_child_stays c.in_ok-one.ensures.steps c.args.a _ c.requires.1.left (rw c.read-words-2.ensures.children at c.child-x-2.ensures) c.edge_of-3.ensures) (half_child_stays c.in_ok-one.ensures.steps c.args.b _ c.requires.1.right (rw c.read-words-2.ensures.children at c.child-y-2.ensures) c.edge_of-4.ensures) in (omega (arith, c.decreases), (ready_after_step c.requires.0 c.in_ok-one.ensures.steps, asked.0, asked.1))

pub apply-returns-in_err-two-clause-steps : goal.apply-returns-in_err-two-clause-steps
apply-returns-in_err-two-clause-steps t c = rw (no_room_made _ c.conjoin-2.new.table.used c.from_residual-in_err-two.ensures.0) (by_tests c.args.table.now.used (stored c.args.table.now) c.args.memo.now c.args.a c.args.b c.args.v c.args.ahead c.if-v-lt-FIRST_BOOLEAN.false (stepped_second_fails (conj_walk _ _) c.requires.0 c.if-v-lt-FIRST_BOOLEAN.false c.requires.1 _ (half_child_read _ c.args.a _ (rw c.read-words.ensures.children at c.child-x.ensures) c.edge_of.ensures) (half_child_read _ c.args.b _ (rw c.read-words.ensures.children at c.child-y.ensures) c.edge_of-2.ensures) c.in_ok-one.ensures.steps refl (half_child_stays c.in_ok-one.ensures.steps c.args.a _ c.requires.1.left (rw c.read-words-2.ensures.children at c.child-x-2.ensures) c.edge_of-3.ensures) (half_child_stays c.in_ok-one.ensures.steps c.args.b _ c.requires.1.right (rw c.read-words-2.ensures.children at c.child-y-2.ensures) c.edge_of-4.ensures) c.in_err-two.ensures.steps refl))

pub apply-create_pair-requires : goal.apply-create_pair-requires
apply-create_pair-requires t c = let kids = both_are_children (conj_walk _ _) c.requires.0 c.if-v-lt-FIRST_BOOLEAN.false c.requires.1 _ (half_child_read _ c.args.a _ (rw c.read-words.ensures.children at c.child-x.ensures) c.edge_of.ensures) (half_child_read _ c.args.b _ (rw c.read-words.ensures.children at c.child-y.ensures) c.edge_of-2.ensures) c.in_ok-one.ensures.steps refl (half_child_stays c.in_ok-one.ensures.steps c.args.a _ c.requires.1.left (rw c.read-words-2.ensures.children at c.child-x-2.ensures) c.edge_of-3.ensures) (half_child_stays c.in_ok-one.ensures.steps c.args.b _ c.requires.1.right (rw c.read-words-2.ensures.children at c.child-y-2.ensures) c.edge_of-4.ensures) c.in_ok-two.ensures.steps refl (ap (λ (b : Bool). cond b c.in_ok-two.two.0 c.in_ok-one.one.0) (sym (ap not (ne_eqb _ _ c.if-back.true)))) (ap (λ (b : Bool). cond b c.in_ok-one.one.0 c.in_ok-two.two.0) (sym (ap not (ne_eqb _ _ c.if-back.true)))) in (c.in_ok-two.ensures.steps.outcome.lent, c.if-v-lt-FIRST_BOOLEAN.false, c.requires.1.known, kids.0, kids.1)

pub apply-create_pair-requires-else-back : goal.apply-create_pair-requires-else-back
apply-create_pair-requires-else-back t c = let kids = both_are_children (conj_walk _ _) c.requires.0 c.if-v-lt-FIRST_BOOLEAN.false c.requires.1 _ (half_child_read _ c.args.a _ (rw c.read-words.ensures.children at c.child-x.ensures) c.edge_of.ensures) (half_child_read _ c.args.b _ (rw c.read-words.ensures.children at c.child-y.ensures) c.edge_of-2.ensures) c.in_ok-one.ensures.steps refl (half_child_stays c.in_ok-one.ensures.steps c.args.a _ c.requires.1.left (rw c.read-words-2.ensures.children at c.child-x-2.ensures) c.edge_of-3.ensures) (half_child_stays c.in_ok-one.ensures.steps c.args.b _ c.requires.1.right (rw c.read-words-2.ensures.children at c.child-y-2.ensures) c.edge_of-4.ensures) c.in_ok-two.ensures.steps refl (ap (λ (b : Bool). cond b c.in_ok-two.two.0 c.in_ok-one.one.0) (sym (ap not (eq-eqb _ _ c.if-back.false)))) (ap (λ (b : Bool). cond b c.in_ok-one.one.0 c.in_ok-two.two.0) (sym (ap not (eq-eqb _ _ c.if-back.false)))) in (c.in_ok-two.ensures.steps.outcome.lent, c.if-v-lt-FIRST_BOOLEAN.false, c.requires.1.known, kids.0, kids.1)

pub apply-returns-then-back-clause-steps : goal.apply-returns-then-back-clause-steps
apply-returns-then-back-clause-steps t c = by_tests c.args.table.now.used (stored c.args.table.now) c.args.memo.now c.args.a c.args.b c.args.v c.args.ahead c.if-v-lt-FIRST_BOOLEAN.false (stepped_pair_built (conj_walk _ _) c.requires.0 c.if-v-lt-FIRST_BOOLEAN.false c.requires.1 _ (half_child_read _ c.args.a _ (rw c.read-words.ensures.children at c.child-x.ensures) c.edge_of.ensures) (half_child_read _ c.args.b _ (rw c.read-words.ensures.children at c.child-y.ensures) c.edge_of-2.ensures) c.in_ok-one.ensures.steps refl (half_child_stays c.in_ok-one.ensures.steps c.args.a _ c.requires.1.left (rw c.read-words-2.ensures.children at c.child-x-2.ensures) c.edge_of-3.ensures) (half_child_stays c.in_ok-one.ensures.steps c.args.b _ c.requires.1.right (rw c.read-words-2.ensures.children at c.child-y-2.ensures) c.edge_of-4.ensures) c.in_ok-two.ensures.steps refl (ap (λ (b : Bool). cond b c.in_ok-two.two.0 c.in_ok-one.one.0) (sym (ap not (ne_eqb _ _ c.if-back.true)))) (ap (λ (b : Bool). cond b c.in_ok-one.one.0 c.in_ok-two.two.0) (sym (ap not (ne_eqb _ _ c.if-back.true)))) c.create_pair.ensures.makes.outcome)

pub apply-returns-else-back-clause-steps : goal.apply-returns-else-back-clause-steps
apply-returns-else-back-clause-steps t c = by_tests c.args.table.now.used (stored c.args.table.now) c.args.memo.now c.args.a c.args.b c.args.v c.args.ahead c.if-v-lt-FIRST_BOOLEAN.false (stepped_pair_built (conj_walk _ _) c.requires.0 c.if-v-lt-FIRST_BOOLEAN.false c.requires.1 _ (half_child_read _ c.args.a _ (rw c.read-words.ensures.children at c.child-x.ensures) c.edge_of.ensures) (half_child_read _ c.args.b _ (rw c.read-words.ensures.children at c.child-y.ensures) c.edge_of-2.ensures) c.in_ok-one.ensures.steps refl (half_child_stays c.in_ok-one.ensures.steps c.args.a _ c.requires.1.left (rw c.read-words-2.ensures.children at c.child-x-2.ensures) c.edge_of-3.ensures) (half_child_stays c.in_ok-one.ensures.steps c.args.b _ c.requires.1.right (rw c.read-words-2.ensures.children at c.child-y-2.ensures) c.edge_of-4.ensures) c.in_ok-two.ensures.steps refl (ap (λ (b : Bool). cond b c.in_ok-two.two.0 c.in_ok-one.one.0) (sym (ap not (eq-eqb _ _ c.if-back.false)))) (ap (λ (b : Bool). cond b c.in_ok-one.one.0 c.in_ok-two.two.0) (sym (ap not (eq-eqb _ _ c.if-back.false)))) c.create_pair-else-back.ensures.makes.outcome)

pub apply_ranges-loop-more-init : goal.apply_ranges-loop-more-init
apply_ranges-loop-more-init t c = (rw c.new-out.ensures.1 (loop_starts (conj_walk _ _) c.args.table.now.used (stored c.args.table.now) c.args.memo.now c.args.a c.args.b c.requires.0 c.requires.1 c.requires.2 (record { list = c.new-out.result.list; len = 0 }) c.new-out.ensures.0 _), same_refl _)

pub apply_ranges-child-x-requires : goal.apply_ranges-child-x-requires
apply_ranges-child-x-requires t c = rw c.read-words.ensures.children (inside_all_children c.requires.0 c.requires.1.left c.loop-more.invariant.0.stays.wide, (c.loop-more.invariant.0.at c.loop-more-test.true).left_in)

pub apply_ranges-child-y-requires : goal.apply_ranges-child-y-requires
apply_ranges-child-y-requires t c = rw c.read-words.ensures.children (inside_all_children c.requires.0 c.requires.1.right c.loop-more.invariant.0.stays.wide, (c.loop-more.invariant.0.at c.loop-more-test.true).right_in)

pub apply_ranges-cut-k-requires : goal.apply_ranges-cut-k-requires
apply_ranges-cut-k-requires t c = rw c.read-words.ensures.cuts (inside_all_children c.requires.0 c.requires.1.left (c.loop-more.invariant.0.ready.lent.allowed.cut_each ∙ c.loop-more.invariant.0.stays.wide), (c.loop-more.invariant.0.at c.loop-more-test.true).left_in)

pub apply_ranges-cut-l-requires : goal.apply_ranges-cut-l-requires
apply_ranges-cut-l-requires t c = rw c.read-words.ensures.cuts (inside_all_children c.requires.0 c.requires.1.right (c.loop-more.invariant.0.ready.lent.allowed.cut_each ∙ c.loop-more.invariant.0.stays.wide), (c.loop-more.invariant.0.at c.loop-more-test.true).right_in)

pub apply_ranges-conjoin-requires : goal.apply_ranges-conjoin-requires
apply_ranges-conjoin-requires t c = let asked = both_asked (conj_walk _ _) c.args.table.now.used (stored c.args.table.now) c.args.memo.now c.args.a c.args.b c.requires.0 c.requires.1 c.requires.2 c.loop-more.invariant.0 c.loop-more-test.true (rw c.read-words.ensures.children at c.child-x.ensures) (rw c.read-words.ensures.children at c.child-y.ensures) in (omega (arith, c.decreases), (c.loop-more.invariant.0.ready, asked.0, asked.1))

pub apply_ranges-returns-in_err-id-clause-steps : goal.apply_ranges-returns-in_err-id-clause-steps
apply_ranges-returns-in_err-id-clause-steps t c = let slot = slot_exists c.loop-more.out.len c.loop-more.last.0 1 in rw (no_room_made _ c.conjoin.new.table.used c.from_residual.ensures.0) (stepped_no_child (conj_walk _ _) c.args.table.now.used (stored c.args.table.now) c.args.memo.now c.args.a c.args.b c.requires.0 c.requires.1 c.requires.2 c.loop-more.invariant.0 c.loop-more-test.true (rw c.read-words.ensures.children at c.child-x.ensures) (rw c.read-words.ensures.children at c.child-y.ensures) (rw c.read-words.ensures.cuts at c.cut-k.ensures) (rw c.read-words.ensures.cuts at c.cut-l.ensures) c.in_err-id.ensures.steps (slot.1, slot.2) refl _)

pub apply_ranges-returns-in_err-s-clause-steps : goal.apply_ranges-returns-in_err-s-clause-steps
apply_ranges-returns-in_err-s-clause-steps t c = rw (no_room_made _ c.conjoin.new.table.used c.from_residual-in_err-s.ensures.0) (stepped_merge_fails (conj_walk _ _) c.args.table.now.used (stored c.args.table.now) c.args.memo.now c.args.a c.args.b c.requires.0 c.requires.1 c.requires.2 (loop_step (conj_walk _ _) c.args.table.now.used (stored c.args.table.now) c.args.memo.now c.args.a c.args.b c.requires.0 c.requires.1 c.requires.2 c.loop-more.invariant.0 c.loop-more-test.true (rw c.read-words.ensures.children at c.child-x.ensures) (rw c.read-words.ensures.children at c.child-y.ensures) (rw c.read-words.ensures.cuts at c.cut-k.ensures) (rw c.read-words.ensures.cuts at c.cut-l.ensures) c.in_ok-id.ensures.steps c.slot_for.ensures c.in_err-s.ensures) refl refl _)

pub apply_ranges-offset_bounds-out-s : goal.apply_ranges-offset_bounds-out-s
apply_ranges-offset_bounds-out-s t c = omega (arith, slot_inside (conj_walk _ _) c.args.table.now.used (stored c.args.table.now) c.args.memo.now c.args.a c.args.b c.requires.0 c.requires.1 c.requires.2 c.loop-more.invariant.0 c.loop-more-test.true (rw c.read-words.ensures.children at c.child-x.ensures) (rw c.read-words.ensures.children at c.child-y.ensures) (rw c.read-words.ensures.cuts at c.cut-k.ensures) (rw c.read-words.ensures.cuts at c.cut-l.ensures) c.in_ok-id.ensures.steps c.slot_for.ensures c.in_ok-s.ensures)

pub apply_ranges-bounds-out-s : goal.apply_ranges-bounds-out-s
apply_ranges-bounds-out-s t c = slot_inside (conj_walk _ _) c.args.table.now.used (stored c.args.table.now) c.args.memo.now c.args.a c.args.b c.requires.0 c.requires.1 c.requires.2 c.loop-more.invariant.0 c.loop-more-test.true (rw c.read-words.ensures.children at c.child-x.ensures) (rw c.read-words.ensures.children at c.child-y.ensures) (rw c.read-words.ensures.cuts at c.cut-k.ensures) (rw c.read-words.ensures.cuts at c.cut-l.ensures) c.in_ok-id.ensures.steps c.slot_for.ensures c.in_ok-s.ensures

pub apply_ranges-overflow_add-out : goal.apply_ranges-overflow_add-out
apply_ranges-overflow_add-out t c = omega (arith, slot_inside (conj_walk _ _) c.args.table.now.used (stored c.args.table.now) c.args.memo.now c.args.a c.args.b c.requires.0 c.requires.1 c.requires.2 c.loop-more.invariant.0 c.loop-more-test.true (rw c.read-words.ensures.children at c.child-x.ensures) (rw c.read-words.ensures.children at c.child-y.ensures) (rw c.read-words.ensures.cuts at c.cut-k.ensures) (rw c.read-words.ensures.cuts at c.cut-l.ensures) c.in_ok-id.ensures.steps c.slot_for.ensures c.in_ok-s.ensures)

pub apply_ranges-overflow_add-i : goal.apply_ranges-overflow_add-i
apply_ranges-overflow_add-i t c = omega (arith, sides_small (conj_walk _ _) c.args.table.now.used (stored c.args.table.now) c.args.memo.now c.args.a c.args.b c.requires.0 c.requires.1 c.requires.2 c.loop-more.invariant.0 c.loop-more-test.true (rw c.read-words.ensures.children at c.child-x.ensures) (rw c.read-words.ensures.children at c.child-y.ensures) (rw c.read-words.ensures.cuts at c.cut-k.ensures) (rw c.read-words.ensures.cuts at c.cut-l.ensures) c.in_ok-id.ensures.steps c.slot_for.ensures c.in_ok-s.ensures)

pub apply_ranges-overflow_add-j : goal.apply_ranges-overflow_add-j
apply_ranges-overflow_add-j t c = omega (arith, sides_small (conj_walk _ _) c.args.table.now.used (stored c.args.table.now) c.args.memo.now c.args.a c.args.b c.requires.0 c.requires.1 c.requires.2 c.loop-more.invariant.0 c.loop-more-test.true (rw c.read-words.ensures.children at c.child-x.ensures) (rw c.read-words.ensures.children at c.child-y.ensures) (rw c.read-words.ensures.cuts at c.cut-k.ensures) (rw c.read-words.ensures.cuts at c.cut-l.ensures) c.in_ok-id.ensures.steps c.slot_for.ensures c.in_ok-s.ensures)

pub apply_ranges-loop-more-smaller : goal.apply_ranges-loop-more-smaller
apply_ranges-loop-more-smaller t c = loop_falls (conj_walk _ _) c.args.table.now.used (stored c.args.table.now) c.args.memo.now c.args.a c.args.b c.requires.0 c.requires.1 c.requires.2 c.loop-more.invariant.0 c.loop-more-test.true (rw c.read-words.ensures.children at c.child-x.ensures) (rw c.read-words.ensures.children at c.child-y.ensures) (rw c.read-words.ensures.cuts at c.cut-k.ensures) (rw c.read-words.ensures.cuts at c.cut-l.ensures) c.in_ok-id.ensures.steps c.slot_for.ensures c.in_ok-s.ensures

pub apply_ranges-loop-more-preserved : goal.apply_ranges-loop-more-preserved
apply_ranges-loop-more-preserved t c = (rw c.new.ensures (loop_any_len (conj_walk _ _) c.args.table.now.used (stored c.args.table.now) c.args.memo.now c.args.a c.args.b (c.in_ok-s.s.slot + 1) (loop_step (conj_walk _ _) c.args.table.now.used (stored c.args.table.now) c.args.memo.now c.args.a c.args.b c.requires.0 c.requires.1 c.requires.2 c.loop-more.invariant.0 c.loop-more-test.true (rw c.read-words.ensures.children at c.child-x.ensures) (rw c.read-words.ensures.children at c.child-y.ensures) (rw c.read-words.ensures.cuts at c.cut-k.ensures) (rw c.read-words.ensures.cuts at c.cut-l.ensures) c.in_ok-id.ensures.steps c.slot_for.ensures c.in_ok-s.ensures)), same_trans c.loop-more.invariant.1 c.conjoin.ensures.same)

pub apply_ranges-settle-requires : goal.apply_ranges-settle-requires
apply_ranges-settle-requires t c = (c.loop-more.invariant.0.ready.lent, closed_buildable (conj_walk _ _) c.args.table.now.used (stored c.args.table.now) c.args.memo.now c.args.a c.args.b c.requires.0 c.requires.1 c.requires.2 c.loop-more.invariant.0 c.loop-more-test.false refl)

pub apply_ranges-returns-clause-steps : goal.apply_ranges-returns-clause-steps
apply_ranges-returns-clause-steps t c = stepped_when_closed (conj_walk _ _) c.args.table.now.used (stored c.args.table.now) c.args.memo.now c.args.a c.args.b c.requires.0 c.requires.1 c.requires.2 c.loop-more.invariant.0 c.loop-more-test.false refl c.settle.ensures.makes.outcome

pub conjoin-returns-in-Some-clause-steps : goal.conjoin-returns-in-Some-clause-steps
conjoin-returns-in-Some-clause-steps t c = stepped_adds_nothing c.requires.0 _ (opened_is c.requires.0 c.requires.1 c.requires.2 c.in-Some.ensures)

pub conjoin-recall-requires : goal.conjoin-recall-requires
conjoin-recall-requires t c = let k = in_either_order (KnownTo _) c.in_order.ensures c.requires.1.known c.requires.2.known in ready_recalls c.requires.0 k.0 k.1

pub conjoin-returns-in-Some-recall-clause-steps : goal.conjoin-returns-in-Some-recall-clause-steps
conjoin-returns-in-Some-recall-clause-steps t c = let two = in_either_order (λ (i : ℕ). 2 ≤ i) c.in_order.ensures (left_node c.requires.0 c.requires.1 c.requires.2 c.in_default.ensures) (right_node c.requires.0 c.requires.1 c.requires.2 c.in_default.ensures) in
    stepped_adds_nothing c.requires.0 _ (recalled_is c.requires.0 c.requires.1 c.requires.2 (entry_as_given c.in_order.ensures (hit_was_noted c.requires.0.recalled (omega (arith, two.0)) c.in-Some-recall.ensures)))

pub conjoin-first_variable-v-requires : goal.conjoin-first_variable-v-requires
conjoin-first_variable-v-requires t c = rw c.read-words.ensures.nodes (left_node c.requires.0 c.requires.1 c.requires.2 c.in_default.ensures, record_inside (ready_readable c.requires.0) _ c.requires.1.known, right_node c.requires.0 c.requires.1 c.requires.2 c.in_default.ensures, record_inside (ready_readable c.requires.0) _ c.requires.2.known)

pub conjoin-view_of-a-requires : goal.conjoin-view_of-a-requires
conjoin-view_of-a-requires t c = rw c.read-words.ensures.nodes (left_node c.requires.0 c.requires.1 c.requires.2 c.in_default.ensures, record_inside (ready_readable c.requires.0) _ c.requires.1.known)

pub conjoin-view_of-b-requires : goal.conjoin-view_of-b-requires
conjoin-view_of-b-requires t c = rw c.read-words.ensures.nodes (right_node c.requires.0 c.requires.1 c.requires.2 c.in_default.ensures, record_inside (ready_readable c.requires.0) _ c.requires.2.known)

pub conjoin-overflow_sub-ahead : goal.conjoin-overflow_sub-ahead
conjoin-overflow_sub-ahead t c = call_left (ready_readable c.requires.0) _ c.requires.1

pub conjoin-apply-requires : goal.conjoin-apply-requires
conjoin-apply-requires t c = (omega (arith, c.decreases, call_left (ready_readable c.requires.0) _ c.requires.1), (c.requires.0, sides c.requires.0 c.requires.1 c.requires.2 c.in_default.ensures (rw c.read-words.ensures.nodes at c.first_variable-v.ensures) (rw c.read-words.ensures.nodes at c.view_of-a.ensures) (rw c.read-words.ensures.nodes at c.view_of-b.ensures)))

pub conjoin-returns-in_err-id-clause-steps : goal.conjoin-returns-in_err-id-clause-steps
conjoin-returns-in_err-id-clause-steps t c = rw (no_room_made _ c.apply.new.table.used c.from_residual.ensures.0) (stepped_equal_want c.in_err-id.ensures.steps (both_is c.requires.0 c.requires.1 c.requires.2 c.in_default.ensures (rw c.read-words.ensures.nodes at c.first_variable-v.ensures) (rw c.read-words.ensures.nodes at c.view_of-a.ensures) (rw c.read-words.ensures.nodes at c.view_of-b.ensures)))

pub conjoin-remember-requires : goal.conjoin-remember-requires
conjoin-remember-requires t c = note_asked c.requires.0 c.requires.1 c.requires.2 c.in_default.ensures (rw c.read-words.ensures.nodes at c.first_variable-v.ensures) (rw c.read-words.ensures.nodes at c.view_of-a.ensures) (rw c.read-words.ensures.nodes at c.view_of-b.ensures) c.in_ok-id.ensures.steps refl c.in_order.ensures

pub conjoin-returns-clause-steps : goal.conjoin-returns-clause-steps
conjoin-returns-clause-steps t c = let step = c.in_ok-id.ensures.steps in
    let both = both_is c.requires.0 c.requires.1 c.requires.2 c.in_default.ensures (rw c.read-words.ensures.nodes at c.first_variable-v.ensures) (rw c.read-words.ensures.nodes at c.view_of-a.ensures) (rw c.read-words.ensures.nodes at c.view_of-b.ensures) in
    stepped_with_note (stepped_equal_want step both) (entry_ordered c.in_order.ensures (entry_of c.requires.0 c.requires.1 c.requires.2 both (step.outcome.table refl) (step.outcome.id refl))) c.remember.ensures
