-- The change of the edges at one variable, as a memo and a walk need it: by how it goes on at an id, and with what may be noted of it.
-- Assumes nothing.
use mathlib.Core.Path.{◌≡◌, refl, sym, ◌∙◌, ap, subst}
use mathlib.Core.Bool.{Bool, true, false, not}
use Prim.Native.Nat.{ℕ, zero, suc, ◌+◌, ◌≤◌, ◌<◌}
use native.Mathlib.Omega.{arith}
use borrow.Author.Tests.{lt-ltb, le-ltb}
use Rattle.ids.specs.Id.{ref}
use Rattle.diagram.specs.Pieces.{Pieces}
use Rattle.diagram.specs.Table.{variables, is_range, Table, at, Assignment, value, Continues, same}
use Rattle.diagram.specs.Cofactor.{edges_of}
use Rattle.diagram.specs.Sound.{Known, Child, Sound}
use Rattle.diagram.specs.Reading.{positions}
use Rattle.diagram.proofs.Continuing.{continues_length, continues_value, continues_child}
use Rattle.diagram.proofs.Cofactors.{edges_are_kids}
use Rattle.algebra.specs.Making.{create_node}
use Rattle.algebra.specs.Conjunction.{walk_in, create_over}
use Rattle.algebra.specs.Changing.{is_before, change_step, change}
use Rattle.algebra.proofs.Made.{Made, made_same_meaning, made_answers}
use Rattle.algebra.proofs.Commuting.{walk_in_agree}
use Rattle.algebra.proofs.Descending.{before_yes, Changes, means, means_continues, change_makes_meaning}
use Rattle.algebra.proofs.Exact.{answer_held}

-- whether an id's node tests an earlier variable, from the two numbers
pub is_before_lem : (t : Table) (v id : ℕ) → (at t (ref id)).var < v → is_before t v id ≡ true
unfolding is_before
is_before_lem t v id h = lt-ltb (at t (ref id)).var v h

pub is_not_before : (t : Table) (v id : ℕ) → v ≤ (at t (ref id)).var → is_before t v id ≡ false
unfolding is_before
is_not_before t v id h = le-ltb (at t (ref id)).var v h

-- a step of the change, by whether the id's node tests an earlier variable
module _ (n : ℕ) (g : Pieces ℕ → Pieces ℕ) (t : Table) (v id : ℕ) where
  step_before : is_before t v id ≡ true → change (suc n) g t v id ≡ create_over (at t (ref id)).var (walk_in (not (is_range (at t (ref id)).var)) (λ s c. change n g s v c) t (edges_of t (at t (ref id)).var id))
  unfolding change change_step
  step_before h = rw h

  step_here : is_before t v id ≡ false → change (suc n) g t v id ≡ create_node t v (g (edges_of t v id))
  unfolding change change_step
  step_here h = rw h

-- with no step left it is the change here
none_here : (g : Pieces ℕ → Pieces ℕ) (t : Table) (v id : ℕ) → change 0 g t v id ≡ create_node t v (g (edges_of t v id))
unfolding change
none_here g t v id = refl

module _ (v : ℕ) (hv : v < variables) (g : Pieces ℕ → Pieces ℕ) (ch : Changes v g) where
  -- how many steps are allowed does not matter, once they suffice
  pub change_enough : (n m : ℕ) (s : Table) → Sound s → (w id : ℕ) → w ≤ v → Child s w id → v ≤ w + n → v ≤ w + m → change n g s v id ≡ change m g s v id
  change_enough zero zero s z w id l k h i = refl
  change_enough zero (suc m) s z w id l k h i = none_here g s v id ∙ sym (step_here m g s v id (is_not_before s v id (omega (arith, k.1))))
  change_enough (suc n) zero s z w id l k h i = step_here n g s v id (is_not_before s v id (omega (arith, k.1))) ∙ sym (none_here g s v id)
  change_enough (suc n) (suc m) s z w id l k h i = go (is_before s v id) refl (λ r y c q. change_enough n m r y (suc u) c q)
    where
      u : ℕ
      u = (at s (ref id)).var

      go : (b : Bool) → is_before s v id ≡ b
          → ((r : Table) → Sound r → (c : ℕ) → suc u ≤ v → Child r (suc u) c → v ≤ suc u + n → v ≤ suc u + m → change n g r v c ≡ change m g r v c)
          → change (suc n) g s v id ≡ change (suc m) g s v id
      go false e rec = step_here n g s v id e ∙ sym (step_here m g s v id e)
      go true e rec =
          let lt : u < v = before_yes s v id e in
          let a : v ≤ suc u + n = omega (arith, k.1) in
          let b : v ≤ suc u + m = omega (arith, k.1) in
          step_before n g s v id e
          ∙ ap (create_over u) (walk_in_agree (λ r c. change m g r v c) (λ r c. change n g r v c) s (Child s (suc u))
          (λ r y q c kc. let x = change_makes_meaning v hv g ch m r y (suc u) c lt (continues_child q (suc u) c kc) b in (x.sound, x.continues))
          (λ r y q c kc. rec r y c lt (continues_child q (suc u) c kc) a b)
          (not (is_range u)) s z same (edges_of s u id) (edges_are_kids s z u id (omega arith) (k.0, omega arith)).kids)
          ∙ sym (step_before m g s v id e)

  -- the children's changes, as Walking and Fitting ask for them
  pub change_made : (t : Table) → Sound t → (u : ℕ) → u < v → (s : Table) → Sound s → Continues t s → (c : ℕ) → Child t (suc u) c → Made s (suc u) (means v hv g ch variables t c) (change variables g s v c)
  change_made t z u l s y q c k = made_same_meaning (change_makes_meaning v hv g ch variables s y (suc u) c l (continues_child q (suc u) c k) (omega arith)) (means_continues v hv g ch variables z q (suc u) c k (omega arith))

  -- at a node of an earlier variable it goes to each child; 63 is what the first step leaves of `variables`
  pub change_before : (t : Table) → Sound t → (id : ℕ) → Known t id → is_before t v id ≡ true
      → change variables g t v id ≡ create_over (at t (ref id)).var (walk_in (not (is_range (at t (ref id)).var)) (λ s c. change variables g s v c) t (edges_of t (at t (ref id)).var id))
  change_before t z id k e =
      let u = (at t (ref id)).var in
      let lt : u < v = before_yes t v id e in
      step_before 63 g t v id e
      ∙ ap (create_over u) (walk_in_agree (λ s c. change variables g s v c) (λ s c. change 63 g s v c) t (Child t (suc u))
      (λ s y q c kc. let x = change_made t z u lt s y q c kc in (x.sound, x.continues))
      (λ s y q c kc. change_enough 63 variables s y (suc u) c lt (continues_child q (suc u) c kc) (omega arith) (omega arith))
      (not (is_range u)) t z same (edges_of t u id) (edges_are_kids t z u id (omega arith) (k, omega arith)).kids)

  -- and at any other id the edges are changed
  pub change_here : (t : Table) (id : ℕ) → is_before t v id ≡ false → change variables g t v id ≡ create_node t v (g (edges_of t v id))
  change_here t id e = step_here 63 g t v id e

  module _ (t : Table) (z : Sound t) (id : ℕ) (k : Known t id) where
    -- the change as a whole
    whole : Made t 0 (means v hv g ch variables t id) (change variables g t v id)
    whole = change_makes_meaning v hv g ch variables t z 0 id (omega arith) (k, omega arith) (omega arith)

    -- it leaves a sound table that continues this one, and the answer is an id of it
    pub change_sound : Sound (change variables g t v id).0
    change_sound = whole.sound

    pub change_continues : Continues t (change variables g t v id).0
    change_continues = whole.continues

    pub change_known : Known (change variables g t v id).0 (change variables g t v id).1
    change_known = whole.child.0

    -- an id of a table that continues this one, which says what the change has to say here, is the answer there
    pub change_held : (s : Table) → Sound s → Continues t s → (c : ℕ) → Known s c → ((α : Assignment) → value s α c ≡ means v hv g ch variables t id α) → change variables g s v id ≡ (s, c)
    change_held s y q c kc h =
        let ks : Known s id = omega (arith, continues_length q) in
        answer_held s y (λ ρ. means v hv g ch variables t id (positions ρ)) (change variables g s v id)
        (made_answers (change_makes_meaning v hv g ch variables s y 0 id (omega arith) (ks, omega arith) (omega arith)) _ (λ ρ. means_continues v hv g ch variables z q 0 id (k, omega arith) (omega arith) (positions ρ)))
        c kc (λ ρ. h (positions ρ))

    -- on the table that it left, the change makes nothing new and gives the same id
    pub change_again_same : change variables g (change variables g t v id).0 v id ≡ change variables g t v id
    change_again_same = change_held (change variables g t v id).0 change_sound change_continues (change variables g t v id).1 change_known whole.means

  -- what was noted of a table stays true of one that continues it
  pub change_stays_settled : {t t' : Table} → Sound t → Sound t' → Continues t t' → (x z : ℕ) → Known t x → change variables g t v x ≡ (t, z) → change variables g t' v x ≡ (t', z)
  change_stays_settled {t} {t'} y y' q x z k e =
      let m = subst (Made t 0 (means v hv g ch variables t x)) e (whole t y x k) in
      change_held t y x k t' y' q z (omega (arith, continues_length q, m.child.0)) (λ α. continues_value q α z m.child.0 ∙ m.means α)
