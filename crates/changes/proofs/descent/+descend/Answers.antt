use mathlib.Core.Path.{refl}
use native.Mathlib.Omega.{arith}
use Rattle.std.proofs.Common.{rules}
use Rattle.std.proofs.lemmas.Result.{err_from_is_err_and}
use Rattle.views.proofs.Sights.{call_left}
use Rattle.walks.proofs.Composing.{ready_readable}
use Rattle.changes.proofs.Looking.{tested}
use Rattle.changes.proofs.Down.{stepped_at_variable, entered, gather_before_first, below_asked, stepped_stuck, gather_after_turn, entered_mergeable, over_notes, stepped_over, stepped_over_noted}
use Rattle.changes.proofs.descent.+descend.Goals as goal

-- `descent::descend` meets its contract: at the variable or past it what the change makes there, and before it the node over what the children
-- become, each in its turn. Assumes nothing.
pub here-requires : goal.here-requires
here-requires g t c = (c.requires.0.lent, c.requires.1.known, tested (ready_readable c.requires.0) _ c.requires.1.known c.variable.ensures.is_at c.variable.ensures.known (rw c.read-words.ensures.nodes at c.if-not-is_before.ensures))

pub returns-then-not-is_before-clause-steps : goal.returns-then-not-is_before-clause-steps
returns-then-not-is_before-clause-steps g t c = stepped_at_variable c.requires.0 c.requires.1 (rw c.variable.ensures.is_at at c.variable.ensures.known) (g.met.C.Change.changes c.args.change.now)
    (tested (ready_readable c.requires.0) _ c.requires.1.known c.variable.ensures.is_at c.variable.ensures.known (rw c.read-words.ensures.nodes at c.if-not-is_before.ensures)) c.here.ensures.gives

pub loop-done-init : goal.loop-done-init
loop-done-init g t c =
    let e = entered c.requires.0 c.requires.1 (rw c.variable.ensures.is_at at c.variable.ensures.known) (g.met.C.Change.changes c.args.change.now)
    (tested (ready_readable c.requires.0) _ c.requires.1.known c.variable.ensures.is_at c.variable.ensures.known (rw c.read-words.ensures.nodes at c.if-not-is_before.ensures))
    (rw c.read-words.ensures.nodes at c.variable-u.ensures) (rw c.read-words.ensures.nodes at c.view_of-a.ensures) in
    record {
      entered = e;
      gathered = gather_before_first e c.new-out.result c.new-out.ensures.0;
      same = search rules;
    }

pub descend-requires : goal.descend-requires
descend-requires g t c = let i = c.loop-done.invariant in λ κs s. (omega (arith, c.decreases, call_left (ready_readable c.requires.0) _ c.requires.1), (s, (i.gathered.ready, below_asked i.entered i.gathered c.loop-done-test.true c.turn-i.ensures (rw c.read-words-in-loop-done.ensures.children at c.child-x.ensures))))

pub returns-in_err-to-clause-steps : goal.returns-in_err-to-clause-steps
returns-in_err-to-clause-steps g t c = let i = c.loop-done.invariant in
    rw (err_from_is_err_and c.from_residual.result c.from_residual.ensures.1).1 (stepped_stuck i.entered i.gathered c.loop-done-test.true c.turn-i.ensures (rw c.read-words-in-loop-done.ensures.children at c.child-x.ensures) c.in_err-to.ensures.steps refl)

pub loop-done-preserved : goal.loop-done-preserved
loop-done-preserved g t c = let i = c.loop-done.invariant in let j = c.descend.ensures.same in record {
  entered = i.entered;
  gathered = gather_after_turn i.entered i.gathered c.loop-done-test.true c.turn-i.ensures (rw c.read-words-in-loop-done.ensures.children at c.child-x.ensures) c.in_ok-to.ensures.steps refl (rw c.read-words-in-loop-done.ensures.cuts at c.cut_of-k.ensures) c.new.ensures;
  same = search rules;
}

pub create_node-requires : goal.create_node-requires
create_node-requires g t c = let i = c.loop-done.invariant in (i.gathered.ready.lent, entered_mergeable i.entered i.gathered c.loop-done-test.false)

pub returns-in_err-to-2-clause-steps : goal.returns-in_err-to-2-clause-steps
returns-in_err-to-2-clause-steps g t c = let i = c.loop-done.invariant in
    rw (err_from_is_err_and c.from_residual-in_err-to-2.result c.from_residual-in_err-to-2.ensures.1).1 (stepped_over i.entered i.gathered c.loop-done-test.false c.in_err-to-2.ensures.makes.outcome)

pub remember-requires : goal.remember-requires
remember-requires g t c = let i = c.loop-done.invariant in over_notes i.entered i.gathered c.loop-done-test.false c.in_ok-to-2.ensures.makes.outcome refl

pub returns-clause-steps : goal.returns-clause-steps
returns-clause-steps g t c = let i = c.loop-done.invariant in stepped_over_noted i.entered i.gathered c.loop-done-test.false c.in_ok-to-2.ensures.makes.outcome refl c.remember.ensures
