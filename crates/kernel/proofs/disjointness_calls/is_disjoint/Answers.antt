use mathlib.Core.Path.{refl}
use Rattle.table.proofs.Laws.{decided_true, decided_false}
use Rattle.table.specs.Told.{refused_3, reply_no, reply_0}
use Rattle.table.proofs.Hearing.{passed_check_sound, check_refuses}
use Rattle.disjointness.proofs.Whole.{sound_asked, sound_answer}
use Rattle.kernel.proofs.Results.{refusal_not_done, same_number, no_yes}
use Rattle.kernel.proofs.disjointness_calls.is_disjoint.Goals as goal

pub returns-in_err-used : goal.returns-in_err-used
returns-in_err-used c = rw (same_number _ _ c.from_residual.ensures.1, no_yes _ _ c.from_residual.ensures.1) (reply_no (check_refuses (λ a. a) (λ a. a) c.in_err-used.ensures (refusal_not_done _)))

pub returns-then-not-both_known : goal.returns-then-not-both_known
returns-then-not-both_known c = let p = passed_check_sound _ _ c.in_ok-used.ensures refl in
    reply_no (refused_3 p.0 _ p.1 (decided_false c.both_known.ensures c.if-not-both_known.true))

pub is_disjoint-requires : goal.is_disjoint-requires
is_disjoint-requires c = let p = passed_check_sound _ _ c.in_ok-used.ensures refl in
    let k = decided_true c.both_known.ensures c.if-not-both_known.false in
    sound_asked p.1 _ _ p.0 k.0 k.1

pub returns : goal.returns
returns c = let p = passed_check_sound _ _ c.in_ok-used.ensures refl in
    rw (sound_answer p.1 _ _ c.is_disjoint.ensures) (reply_0 p.0 _ p.1 (decided_true c.both_known.ensures c.if-not-both_known.false) tt)
