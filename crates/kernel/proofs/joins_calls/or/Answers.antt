use mathlib.Core.Path.{refl, sym}
use Rattle.walks.proofs.Finished.{ready_zeroed}
use Rattle.kernel.proofs.Deciding.{asks_none}
use Rattle.kernel.proofs.Results.{refusal_not_done, same_number, no_id}
use Rattle.kernel.proofs.ByIds.{ids_lent, cleared_lent, cleared, ids_refused, ids_answered}
use Rattle.kernel.proofs.joins_calls.or.Goals as goal

pub returns-in_err-used-clause-comes : goal.returns-in_err-used-clause-comes
returns-in_err-used-clause-comes c = (tt, ids_refused _ _ _ _ _ _ _ _ (λ u k. k) (λ u k. k) asks_none (rw (c.read.ensures.nodes, c.read.ensures.children, c.read.ensures.cuts, c.read.ensures.index) at c.in_err-used.ensures).1 (refusal_not_done _) (same_number _ _ c.from_residual.ensures.1, no_id _ _ c.from_residual.ensures.1))

pub or-answer-requires : goal.or-answer-requires
or-answer-requires c = let l = ids_lent asks_none (rw (c.read.ensures.nodes, c.read.ensures.children, c.read.ensures.cuts, c.read.ensures.index) at c.in_ok-used.ensures) refl in
    let m = c.args.memo.now in
    let zeros = c.fill.ensures.after (λ y q. q) in
    (ready_zeroed l.0 (cleared_lent m zeros l.1) (cleared m zeros), l.2.0, l.2.1)

pub returns-in_err-answer-clause-comes : goal.returns-in_err-answer-clause-comes
returns-in_err-answer-clause-comes c = rw (c.table-4-1.given.1 (sym c.or-answer.ensures.same.nodes), c.table-3-1.given.1 (sym c.or-answer.ensures.same.children), c.table-2-1.given.1 (sym c.or-answer.ensures.same.cuts), c.table-1.given.1 (sym c.or-answer.ensures.same.index)) (tt, ids_answered _ _ _ _ _ _ _ _ (λ u k. k) (λ u k. k) asks_none (rw (c.read.ensures.nodes, c.read.ensures.children, c.read.ensures.cuts, c.read.ensures.index) at c.in_ok-used.ensures) refl (c.fill.ensures.after (λ y q. q)) c.in_err-answer.ensures.joins.worked c.clear.ensures refl (same_number _ _ c.from_residual-in_err-answer.ensures.1, no_id _ _ c.from_residual-in_err-answer.ensures.1))

pub returns-clause-comes : goal.returns-clause-comes
returns-clause-comes c = rw (c.table-4-1.given.1 (sym c.or-answer.ensures.same.nodes), c.table-3-1.given.1 (sym c.or-answer.ensures.same.children), c.table-2-1.given.1 (sym c.or-answer.ensures.same.cuts), c.table-1.given.1 (sym c.or-answer.ensures.same.index)) (tt, ids_answered _ _ _ _ _ _ _ _ (λ u k. k) (λ u k. k) asks_none (rw (c.read.ensures.nodes, c.read.ensures.children, c.read.ensures.cuts, c.read.ensures.index) at c.in_ok-used.ensures) refl (c.fill.ensures.after (λ y q. q)) c.in_ok-answer.ensures.joins.worked c.clear.ensures refl (refl, refl))
