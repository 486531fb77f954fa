use mathlib.Core.Path.{sym, ◌∙◌}
use Rattle.conjunction.proofs.Opened.{opened_right, opened_left, opened_same, opened_opposed, opened_none}
use Rattle.conjunction.proofs.opening.opened.Goals as goal
use Rattle.conjunction.proofs.opening.opened.Goals.{then-is_true-2-via-then-is_true-2, then-is_true-2-via-else-is_true-2+then-eq}

-- The source's tests, one after the other.
pub returns-then-is_true : goal.returns-then-is_true
returns-then-is_true c = opened_right _ _ (sym c.is_true.ensures ∙ c.if-is_true.true)

pub returns-then-is_true-2 : goal.returns-then-is_true-2
returns-then-is_true-2 c = let x = sym c.is_true.ensures ∙ c.if-is_true.false in
    elim c.then-is_true-2.branch [
      | then-is_true-2-via-then-is_true-2 w ↦ opened_left _ _ x (sym c.is_true-2.ensures ∙ w.if-is_true-2.true)
      | then-is_true-2-via-else-is_true-2+then-eq w ↦ opened_same _ _ x (sym c.is_true-2.ensures ∙ w.if-is_true-2.false) (sym w.eq.ensures ∙ w.if-eq.true)
    ]

pub returns-then-opposed : goal.returns-then-opposed
returns-then-opposed c = opened_opposed _ _ (sym c.is_true.ensures ∙ c.if-is_true.false) (sym c.is_true-2.ensures ∙ c.if-is_true-2.false) (sym c.eq.ensures ∙ c.if-eq.false) c.opposed.ensures c.if-opposed.true

pub returns : goal.returns
returns c = opened_none _ _ (sym c.is_true.ensures ∙ c.if-is_true.false) (sym c.is_true-2.ensures ∙ c.if-is_true-2.false) (sym c.eq.ensures ∙ c.if-eq.false) c.opposed.ensures c.if-opposed.false
