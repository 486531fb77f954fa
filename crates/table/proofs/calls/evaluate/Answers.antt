use Rattle.std.proofs.lemmas.Result.{err_from_is_err_and}
use mathlib.Core.Path.{refl}
use Rattle.table.specs.Told.{refused_1, refused_3, refused_last, reply_no}
use Rattle.table.proofs.Laws.{decided_true, decided_false}
use Rattle.table.proofs.Hearing.{known_when_true, unknown_when_false, passed_check_sound, check_refuses, hears_it, refusal_not_done}
use Rattle.table.proofs.calls.evaluate.Goals as goal

-- `calls::evaluate` has the one outcome that its contract allows. Assumes nothing.

pub returns-then-places-ne-FIRST_BOOLEAN : goal.returns-then-places-ne-FIRST_BOOLEAN
returns-then-places-ne-FIRST_BOOLEAN c = reply_no (refused_1 (λ x. c.if-places-ne-FIRST_BOOLEAN.true x.1))

pub returns-in_err-used : goal.returns-in_err-used
returns-in_err-used c = let p = err_from_is_err_and c.from_residual.result c.from_residual.ensures.1 in
    rw (p.1, p.2) (reply_no (check_refuses (λ a. (a, c.if-places-ne-FIRST_BOOLEAN.false)) (λ l. l.0) c.in_err-used.ensures (refusal_not_done _)))

pub returns-then-not-is_known : goal.returns-then-not-is_known
returns-then-not-is_known c = let p = passed_check_sound _ _ c.in_ok-used.ensures refl in
    reply_no (refused_3 (p.0, c.if-places-ne-FIRST_BOOLEAN.false) _ p.1 (unknown_when_false _ _ c.is_known.ensures c.if-not-is_known.true))

pub returns-then-not-are_places : goal.returns-then-not-are_places
returns-then-not-are_places c = let p = passed_check_sound _ _ c.in_ok-used.ensures refl in
    reply_no (refused_last (p.0, c.if-places-ne-FIRST_BOOLEAN.false) _ p.1 (known_when_true _ _ c.is_known.ensures c.if-not-is_known.false) (decided_false c.are_places.ensures c.if-not-are_places.true))

pub returns : goal.returns
returns c = let p = passed_check_sound _ _ c.in_ok-used.ensures refl in
    hears_it _ _ _ _ _ (p.0, c.if-places-ne-FIRST_BOOLEAN.false) p.1 (known_when_true _ _ c.is_known.ensures c.if-not-is_known.false) (decided_true c.are_places.ensures c.if-not-are_places.false) _ (c.reads.ensures _ p.1.records)
