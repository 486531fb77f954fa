use mathlib.Core.Path.{refl, sym, ◌∙◌}
use native.Mathlib.Omega.{arith}
use Rattle.disjointness.proofs.Walks.{children_asked, turned_at, beside_next, walk_no, walk_left, walk_right, walk_both}
use Rattle.disjointness.proofs.Pairs.{high_no, high_yes}
use Rattle.disjointness.proofs.Opening.{answers_as, even_no, some_ahead, opening_yes, opening_no, ids_small, recalled_yes, noted_listed, left_node, right_node, variable_known, sides_asked, sides_answer, range_sides, range_answer, bool_sides, bool_answer}
use Rattle.disjointness.proofs.+disjoint.Goals as goal
use Rattle.disjointness.proofs.+disjoint.Goals.{ranges_disjoint-else-loop-j-test, ranges_disjoint-then-loop-j-test+in_ok-yes+else-not-yes+then-k-l, ranges_disjoint-then-loop-j-test+in_ok-yes+else-not-yes+else-k-l+then-k-l-2}

pub booleans_disjoint-ids_disjoint-requires : goal.booleans_disjoint-ids_disjoint-requires
booleans_disjoint-ids_disjoint-requires t c = (omega (arith, c.decreases), children_asked c.requires c.requires.listed (omega (arith, c.requires.left.some)) (omega (arith, c.requires.right.some)) c.child-x.ensures c.child-y.ensures)

pub booleans_disjoint-returns-then-not-yes : goal.booleans_disjoint-returns-then-not-yes
booleans_disjoint-returns-then-not-yes t c = record { right = high_no c.requires c.child-x.ensures c.child-y.ensures c.in_ok-yes.ensures.right c.if-not-yes.true; listed = c.in_ok-yes.ensures.listed; stays = c.in_ok-yes.ensures.stays }

pub booleans_disjoint-ids_disjoint-requires-2 : goal.booleans_disjoint-ids_disjoint-requires-2
booleans_disjoint-ids_disjoint-requires-2 t c = (omega (arith, c.decreases), children_asked c.requires c.in_ok-yes.ensures.listed (omega (arith, c.requires.left.some)) (omega (arith, c.requires.right.some)) c.child-x-2.ensures c.child-y-2.ensures)

pub booleans_disjoint-returns : goal.booleans_disjoint-returns
booleans_disjoint-returns t c = answers_as (λ l. c.in_ok-yes.ensures.stays (omega (arith, l, c.ids_disjoint-2.auto.noted))) (high_yes c.requires c.child-x.ensures c.child-y.ensures c.in_ok-yes.ensures.right c.if-not-yes.false c.child-x-2.ensures c.child-y-2.ensures) c.ids_disjoint-2.ensures

pub ids_disjoint-returns-then-both_even : goal.ids_disjoint-returns-then-both_even
ids_disjoint-returns-then-both_even t c = let even = c.both_even.ensures c.if-both_even.true in
    record { right = even_no c.requires even.0 even.1; listed = c.requires.listed; stays = λ l. refl }

pub ids_disjoint-returns-then-opposed : goal.ids_disjoint-returns-then-opposed
ids_disjoint-returns-then-opposed t c = record { right = opening_yes c.requires c.opposed.ensures c.if-opposed.true; listed = c.requires.listed; stays = λ l. refl }

pub ids_disjoint-returns-then-agreeing : goal.ids_disjoint-returns-then-agreeing
ids_disjoint-returns-then-agreeing t c = record { right = opening_no c.requires c.opposed.ensures c.if-opposed.false c.agreeing.ensures c.if-agreeing.true; listed = c.requires.listed; stays = λ l. refl }

pub nodes_disjoint-overflow_sub-ahead : goal.nodes_disjoint-overflow_sub-ahead
nodes_disjoint-overflow_sub-ahead t c = omega (arith, some_ahead c.requires.0)

pub nodes_disjoint-sides_disjoint-requires : goal.nodes_disjoint-sides_disjoint-requires
nodes_disjoint-sides_disjoint-requires t c = (omega (arith, c.decreases, some_ahead c.requires.0), sides_asked c.requires.0 c.requires.1 c.requires.2 c.first_variable-v.ensures c.view_of-a.ensures c.view_of-b.ensures)

pub nodes_disjoint-returns-then-noted-lt-MEMO_WORDS : goal.nodes_disjoint-returns-then-noted-lt-MEMO_WORDS
nodes_disjoint-returns-then-noted-lt-MEMO_WORDS t c = answers_as (λ l. absurd (omega (arith, l, c.if-noted-lt-MEMO_WORDS.true, c.sides_disjoint.auto.noted))) (sides_answer c.requires.0 c.requires.1 c.requires.2 c.first_variable-v.ensures c.view_of-a.ensures c.view_of-b.ensures) c.sides_disjoint.ensures

pub nodes_disjoint-recall-requires : goal.nodes_disjoint-recall-requires
nodes_disjoint-recall-requires t c = let i = ids_small c.requires.0 c.in_order.ensures in (omega (arith, c.if-noted-lt-MEMO_WORDS.false), c.requires.0.listed.most, c.requires.0.listed.pairs.framed, i.0, i.1)

pub nodes_disjoint-returns-then-is_some : goal.nodes_disjoint-returns-then-is_some
nodes_disjoint-returns-then-is_some t c = let pre· = c.requires in
    record { right = recalled_yes pre·.0 c.in_order.ensures c.recall.result (left_node pre·.0 c.requires.1 c.requires.2) (right_node pre·.0 c.requires.1 c.requires.2) c.recall.ensures (sym c.is_some.ensures ∙ c.if-is_some.true); listed = pre·.0.listed; stays = λ l. refl }

pub nodes_disjoint-overflow_sub-ahead-2 : goal.nodes_disjoint-overflow_sub-ahead-2
nodes_disjoint-overflow_sub-ahead-2 t c = omega (arith, some_ahead c.requires.0)

pub nodes_disjoint-sides_disjoint-requires-2 : goal.nodes_disjoint-sides_disjoint-requires-2
nodes_disjoint-sides_disjoint-requires-2 t c = (omega (arith, c.decreases, some_ahead c.requires.0), sides_asked c.requires.0 c.requires.1 c.requires.2 c.first_variable-v.ensures c.view_of-a.ensures c.view_of-b.ensures)

pub nodes_disjoint-returns-then-not-yes : goal.nodes_disjoint-returns-then-not-yes
nodes_disjoint-returns-then-not-yes t c = record { right = sym c.if-not-yes.true ∙ (c.in_ok-yes.ensures.right ∙ sides_answer c.requires.0 c.requires.1 c.requires.2 c.first_variable-v.ensures c.view_of-a.ensures c.view_of-b.ensures); listed = c.in_ok-yes.ensures.listed; stays = c.in_ok-yes.ensures.stays }

pub nodes_disjoint-remember-requires : goal.nodes_disjoint-remember-requires
nodes_disjoint-remember-requires t c = let i = ids_small c.requires.0 c.in_order.ensures in (omega (arith, c.if-noted-lt-MEMO_WORDS.false, c.sides_disjoint-2.auto.noted), c.in_ok-yes.ensures.listed.most, c.in_ok-yes.ensures.listed.pairs.framed, i.0, i.1, omega arith, variable_known c.requires.0 c.requires.1 c.requires.2 c.first_variable-v.ensures c.view_of-a.ensures c.view_of-b.ensures)

pub nodes_disjoint-returns : goal.nodes_disjoint-returns
nodes_disjoint-returns t c = let same = c.in_ok-yes.ensures.right ∙ sides_answer c.requires.0 c.requires.1 c.requires.2 c.first_variable-v.ensures c.view_of-a.ensures c.view_of-b.ensures in
    record { right = same; listed = noted_listed c.requires.0 c.in_order.ensures c.in_ok-yes.ensures.listed c.if-not-yes.false same c.remember.ensures; stays = λ l. c.in_ok-yes.ensures.stays (omega (arith, l, c.remember.ensures.long)) }

pub ranges_disjoint-ids_disjoint-requires : goal.ranges_disjoint-ids_disjoint-requires
ranges_disjoint-ids_disjoint-requires t c = (omega (arith, c.decreases), children_asked c.requires c.loop-j.invariant.1.listed (omega arith) c.loop-j-test.true c.child-x.ensures c.child-y.ensures)

pub ranges_disjoint-returns-then-not-yes : goal.ranges_disjoint-returns-then-not-yes
ranges_disjoint-returns-then-not-yes t c = record { right = walk_no c.requires c.left-test.true c.loop-j.invariant.1.here c.child-x.ensures c.child-y.ensures c.in_ok-yes.ensures.right c.if-not-yes.true; listed = c.in_ok-yes.ensures.listed; stays = λ l. c.in_ok-yes.ensures.stays l ∙ c.loop-j.invariant.1.stays (omega (arith, l, c.ids_disjoint.auto.noted)) }

pub ranges_disjoint-loop-j-preserved : goal.ranges_disjoint-loop-j-preserved
ranges_disjoint-loop-j-preserved t c = (
  c.loop-j.invariant.0,
  beside_next c.loop-j.invariant.1 c.ids_disjoint.auto.noted c.in_ok-yes.ensures refl refl
      (walk_right c.requires c.left-test.true c.loop-j.invariant.1.here c.child-x.ensures c.child-y.ensures c.in_ok-yes.ensures.right c.if-not-yes.false c.cut-k.ensures c.cut-l.ensures (omega (arith, c.if-k-l.false, c.if-k-l-2.false))),
)

pub ranges_disjoint-left-preserved : goal.ranges_disjoint-left-preserved
ranges_disjoint-left-preserved t c = (
  c.loop-j.invariant.0,
  elim c.loop-j-test.branch [
    | ranges_disjoint-else-loop-j-test w ↦ absurd (omega (arith, w.loop-j-test.false, c.loop-j.invariant.1.here.inside))
    | ranges_disjoint-then-loop-j-test+in_ok-yes+else-not-yes+then-k-l w ↦
        beside_next c.loop-j.invariant.1 w.ids_disjoint.auto.noted w.in_ok-yes.ensures w.noted-is w.rest-is
        (turned_at w.j-is (walk_left c.requires c.left-test.true c.loop-j.invariant.1.here c.child-x.ensures w.child-y.ensures w.in_ok-yes.ensures.right w.if-not-yes.false c.cut-k.ensures w.cut-l.ensures w.if-k-l.true))
    | ranges_disjoint-then-loop-j-test+in_ok-yes+else-not-yes+else-k-l+then-k-l-2 w ↦
        beside_next c.loop-j.invariant.1 w.ids_disjoint.auto.noted w.in_ok-yes.ensures w.noted-is w.rest-is
        (turned_at w.j-is (walk_both c.requires c.left-test.true c.loop-j.invariant.1.here c.child-x.ensures w.child-y.ensures w.in_ok-yes.ensures.right w.if-not-yes.false c.cut-k.ensures w.cut-l.ensures w.if-k-l-2.true))
  ],
)

pub sides_disjoint-ranges_disjoint-requires : goal.sides_disjoint-ranges_disjoint-requires
sides_disjoint-ranges_disjoint-requires t c = (omega (arith, c.decreases), range_sides c.requires c.if-v-lt-FIRST_BOOLEAN.true)

pub sides_disjoint-booleans_disjoint-requires : goal.sides_disjoint-booleans_disjoint-requires
sides_disjoint-booleans_disjoint-requires t c = (omega (arith, c.decreases), bool_sides c.requires c.if-v-lt-FIRST_BOOLEAN.false)

pub sides_disjoint-returns-then-v-lt-FIRST_BOOLEAN : goal.sides_disjoint-returns-then-v-lt-FIRST_BOOLEAN
sides_disjoint-returns-then-v-lt-FIRST_BOOLEAN t c = answers_as (λ l. refl) (range_answer c.requires c.if-v-lt-FIRST_BOOLEAN.true) c.ranges_disjoint.ensures

pub sides_disjoint-returns-else-v-lt-FIRST_BOOLEAN : goal.sides_disjoint-returns-else-v-lt-FIRST_BOOLEAN
sides_disjoint-returns-else-v-lt-FIRST_BOOLEAN t c = answers_as (λ l. refl) (bool_answer c.requires c.if-v-lt-FIRST_BOOLEAN.false) c.booleans_disjoint.ensures
