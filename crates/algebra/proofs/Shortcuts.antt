-- What narrowing and widening answer without looking. Document 01, steps 8 and 9: the definitions have no such cases, and come to the
-- same by the memo law. Assumes nothing.
use mathlib.Core.Path.{◌≡◌, refl, sym, ◌∙◌, ap}
use mathlib.Core.Bool.{Bool, ◌&&◌, and-true}
use mathlib.Core.Logic.{◌⊎◌, inl, inr}
use Prim.Native.Nat.{ℕ, zero, suc, ◌<◌}
use native.Mathlib.Omega.{arith}
use Rattle.ids.specs.Id.{FALSE}
use Rattle.ranges.specs.Bounding.{Keyed, inside, Empty}
use Rattle.ranges.specs.declared.bounds.Bound.{Bound}
use Rattle.ranges.specs.declared.bounds.Bound.TheVariants.{Open}
use Rattle.ranges.proofs.Nearest.{empty_exactly}
use Rattle.diagram.specs.Table.{first_boolean, Table}
use Rattle.diagram.specs.Sound.{Known, Sound}
use Rattle.diagram.specs.Reading.{Reading, positions, says}
use Rattle.diagram.proofs.Lookup.{value_true, value_false}
use Rattle.algebra.specs.Changing.{narrow, widen}
use Rattle.algebra.specs.Narrowing.{AtNearest}
use Rattle.algebra.proofs.Promises.{empty_or_nearest, narrow_answers, narrow_empty_answers, widen_answers, held_answer_is_given}

-- a terminal says the same under every reading
steady_terminal : (t : Table) (id : ℕ) → id < 2 → (ρ σ : Reading) → says t ρ id ≡ says t σ id
steady_terminal t zero h ρ σ = value_true t (positions ρ) 0 refl ∙ sym (value_true t (positions σ) 0 refl)
steady_terminal t (suc zero) h ρ σ = value_false t (positions ρ) 1 refl ∙ sym (value_false t (positions σ) 1 refl)
steady_terminal t (suc (suc n)) h ρ σ = absurd (omega arith)

module _ (t : Table) (z : Sound t) (v : ℕ) (hv : v < first_boolean) where
  -- "Terminals, or both ends open: the id unchanged."
  pub narrow_terminal : (lower upper : Bound) → Keyed lower → Keyed upper → (id : ℕ) → id < 2 → narrow t v lower upper id ≡ (t, id)
  narrow_terminal lower upper kl ku id h = go (empty_or_nearest v hv lower upper kl ku)
    where
      k : Known t id
      k = omega arith

      go : Empty lower upper ⊎ ((ρ : Reading) → (σ : Reading) × AtNearest v lower upper ρ σ) → narrow t v lower upper id ≡ (t, id)
      go (inl e) = held_answer_is_given t z (λ ρ. says t ρ id) (narrow t v lower upper id) (narrow_empty_answers t z id k v hv lower upper kl ku e (λ ρ. says t ρ id)
          (λ ρ. (λ f. absurd (f (λ σ τ a s. steady_terminal t id h σ τ)), λ s. refl))) id k (λ ρ. refl)
      go (inr n) = held_answer_is_given t z _ (narrow t v lower upper id) (narrow_answers t z id k v hv lower upper kl ku (λ ρ. (n ρ).0) (λ ρ. (n ρ).1)) id k
          (λ ρ. steady_terminal t id h ρ (n ρ).0)

  module _ (id : ℕ) (k : Known t id) where
    pub narrow_open : narrow t v Open Open id ≡ (t, id)
    narrow_open = held_answer_is_given t z _ (narrow t v Open Open id) (narrow_answers t z id k v hv Open Open tt tt (λ ρ. ρ) itself) id k (λ ρ. refl)
      where
        itself : (ρ : Reading) → AtNearest v Open Open ρ ρ
        itself ρ = ((λ w n. refl, λ w. refl), record { within = refl; least = λ r h i. omega arith })

    -- "Empty bounds give FALSE", and both ends open leave the id
    pub widen_empty : (lower upper : Bound) → Keyed lower → Keyed upper → Empty lower upper → widen t v lower upper id ≡ (t, FALSE)
    unfolding widen
    widen_empty lower upper kl ku e = rw ((empty_exactly lower upper kl ku).1 e)

    pub widen_open : widen t v Open Open id ≡ (t, id)
    widen_open = held_answer_is_given t z _ (widen t v Open Open id) (widen_answers t z id k v hv Open Open tt tt) id k (λ ρ. sym (and-true (says t ρ id)))

  -- FALSE stays FALSE
  pub widen_false : (lower upper : Bound) → Keyed lower → Keyed upper → widen t v lower upper FALSE ≡ (t, FALSE)
  widen_false lower upper kl ku = held_answer_is_given t z _ (widen t v lower upper FALSE) (widen_answers t z FALSE (omega arith) v hv lower upper kl ku) FALSE (omega arith)
      (λ ρ. value_false t (positions ρ) FALSE refl ∙ sym (ap (λ (b : Bool). b && inside lower upper (ρ.place v)) (value_false t (positions ρ) FALSE refl)))
