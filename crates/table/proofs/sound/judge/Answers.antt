use mathlib.Core.Path.{refl, ap, sym, ◌∙◌}
use mathlib.Core.Logic.{inl, inr}
use native.Mathlib.Omega.{arith}
use borrow.Author.Count.{below_more}
use Rattle.table.specs.Layout.{count_at, start}
use Rattle.table.specs.Lending.{store_in}
use Rattle.table.specs.Checking.{unsound}
use Rattle.table.proofs.Laws as laws
use Rattle.table.proofs.Whole.{Ended, judged, refused, unlinked, left_over}
use Rattle.table.proofs.sound.judge.Goals as goal
use Rattle.table.proofs.sound.judge.Goals.{After-are_linked, else-loop-n-test, then-loop-n-test+then-count-eq0, else-are_linked-via-then-are_linked+else-rest_holds, else-are_linked-via-else-are_linked}

pub returns-then-not-is_recorded : goal.returns-then-not-is_recorded
returns-then-not-is_recorded c = unsound (refused _ _ c.loop-n.n (λ z. c.if-count-eq0.false (c.count_of-count.ensures.0 ∙ z)) (laws.decided_false c.is_recorded.ensures c.if-not-is_recorded.true))

pub loop-n-preserved : goal.loop-n-preserved
loop-n-preserved c = let x = laws.decided_true c.is_recorded.ensures c.if-not-is_recorded.false in let i = x.rules.inside in let p = x.rules.packed in let s = laws.start_next c.args.table.now.nodes.now c.loop-n.n in let k = c.count_of-count.ensures.0 in let a = c.loop-n.invariant.1 in
    (refl, omega arith, omega arith, below_more _ _ c.loop-n.invariant.3 x)

ended : (c : After-are_linked) → Ended (store_in c.args.table.now) c.args.table.now.index.now c.loop-n.used.nodes c.loop-n.used.edges
ended c = let q = c.loop-n.invariant.0 in record {
  fits = omega arith;
  all = λ m l. c.loop-n.invariant.3 m (omega arith);
  at = c.loop-n.invariant.1 ∙ ap (start c.args.table.now.nodes.now) (sym q);
  ends = elim c.loop-n-test.branch [ else-loop-n-test w ↦ inl (omega arith) | then-loop-n-test+then-count-eq0 w ↦ inr (ap (count_at c.args.table.now.nodes.now) q ∙ (sym w.count_of-count.ensures.0 ∙ w.if-count-eq0.true)) ];
}

pub returns-then-rest_holds : goal.returns-then-rest_holds
returns-then-rest_holds c = judged _ _ _ _ (ended (goal.at.returns-then-rest_holds c).After-are_linked) (laws.decided_true c.are_linked.ensures c.if-are_linked.true) (laws.decided_true c.rest_holds.ensures c.if-rest_holds.true)

pub returns-else-are_linked : goal.returns-else-are_linked
returns-else-are_linked c = let d = ended (goal.at.returns-else-are_linked c).After-are_linked in
    unsound (elim c.else-are_linked.branch [
      | else-are_linked-via-then-are_linked+else-rest_holds w ↦ left_over _ _ _ _ d (laws.decided_false w.rest_holds.ensures w.if-rest_holds.false)
      | else-are_linked-via-else-are_linked w ↦ unlinked _ _ _ _ d (laws.decided_false c.are_linked.ensures w.if-are_linked.false)
    ])
