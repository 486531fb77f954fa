use mathlib.Core.Path.{refl, sym}
use Rattle.ranges.proofs.Ends.{held_keyed}
use Rattle.kernel.proofs.Results.{refusal_not_done, same_number, no_id}
use Rattle.kernel.proofs.ByIds.{ids_lent, cleared_lent, cleared, ids_refused, ids_answered}
use Rattle.kernel.proofs.changes_calls.narrow.Goals as goal

pub returns-in_err-used-clause-comes : goal.returns-in_err-used-clause-comes
returns-in_err-used-clause-comes c = ((held_keyed c.args.lower c.well_formed.1.1.1.1.0, held_keyed c.args.upper c.well_formed.1.1.1.1.1.0), ids_refused _ _ _ _ _ _ _ _ (λ u k. k.0) (λ u k. (k, k)) c.is_range.ensures (rw (c.read.ensures.nodes, c.read.ensures.children, c.read.ensures.cuts, c.read.ensures.index) at c.in_err-used.ensures).1 (refusal_not_done _) (same_number _ _ c.from_residual.ensures.1, no_id _ _ c.from_residual.ensures.1))

pub narrow-answer-requires : goal.narrow-answer-requires
narrow-answer-requires c = let l = ids_lent c.is_range.ensures (rw (c.read.ensures.nodes, c.read.ensures.children, c.read.ensures.cuts, c.read.ensures.index) at c.in_ok-used.ensures) refl in
    let m = c.args.memo.now in
    let zeros = c.fill.ensures.after (λ y q. q) in
    (l.0, cleared_lent m zeros l.1, cleared m zeros, l.2.0, l.3)

pub returns-in_err-answer-clause-comes : goal.returns-in_err-answer-clause-comes
returns-in_err-answer-clause-comes c = rw (c.table-4-1.given.1 (sym c.narrow-answer.ensures.same.nodes), c.table-3-1.given.1 (sym c.narrow-answer.ensures.same.children), c.table-2-1.given.1 (sym c.narrow-answer.ensures.same.cuts), c.table-1.given.1 (sym c.narrow-answer.ensures.same.index)) ((held_keyed c.args.lower c.well_formed.1.1.1.1.0, held_keyed c.args.upper c.well_formed.1.1.1.1.1.0), ids_answered _ _ _ _ _ _ _ _ (λ u k. k.0) (λ u k. (k, k)) c.is_range.ensures (rw (c.read.ensures.nodes, c.read.ensures.children, c.read.ensures.cuts, c.read.ensures.index) at c.in_ok-used.ensures) refl (c.fill.ensures.after (λ y q. q)) c.in_err-answer.ensures.works c.clear.ensures refl (same_number _ _ c.from_residual-in_err-answer.ensures.1, no_id _ _ c.from_residual-in_err-answer.ensures.1))

pub returns-clause-comes : goal.returns-clause-comes
returns-clause-comes c = rw (c.table-4-1.given.1 (sym c.narrow-answer.ensures.same.nodes), c.table-3-1.given.1 (sym c.narrow-answer.ensures.same.children), c.table-2-1.given.1 (sym c.narrow-answer.ensures.same.cuts), c.table-1.given.1 (sym c.narrow-answer.ensures.same.index)) ((held_keyed c.args.lower c.well_formed.1.1.1.1.0, held_keyed c.args.upper c.well_formed.1.1.1.1.1.0), ids_answered _ _ _ _ _ _ _ _ (λ u k. k.0) (λ u k. (k, k)) c.is_range.ensures (rw (c.read.ensures.nodes, c.read.ensures.children, c.read.ensures.cuts, c.read.ensures.index) at c.in_ok-used.ensures) refl (c.fill.ensures.after (λ y q. q)) c.in_ok-answer.ensures.works c.clear.ensures refl (refl, refl))
