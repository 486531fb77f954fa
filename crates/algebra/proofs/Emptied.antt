-- Narrowing by empty bounds: under each reading the old answer either is steady or still changes, and the answer is as asked in both
-- cases. In a sound table it still changes exactly where a node of the variable stands. Assumes nothing.
use mathlib.Core.Path.{◌≡◌, refl, sym, ◌∙◌, ap}
use mathlib.Core.Bool.{Bool, true, false, cond}
use mathlib.Core.Logic.{◌⊎◌, inl, inr}
use Prim.Native.Nat.{ℕ, suc, ◌≤◌, ◌<◌}
use native.Mathlib.Omega.{arith}
use lib.Dec.{ltb}
use borrow.Author.Tests.{ne_eqb, lt-ltb, le-ltb, ltb-false}
use Rattle.ranges.specs.Ending.{place_at}
use Rattle.ranges.proofs.Positions.{place_at_position}
use Rattle.diagram.specs.Pieces.{Pieces, last, cut, select}
use Rattle.diagram.specs.Shape.{Each, Rising}
use Rattle.diagram.specs.Table.{first_boolean, variables, is_range, top_of, Table, Assignment, value}
use Rattle.diagram.specs.Cofactor.{edges_of, upd, Within}
use Rattle.diagram.specs.Sound.{Known, Child, Sound}
use Rattle.diagram.specs.Reading.{Reading, positions, says, SameBut}
use Rattle.diagram.proofs.Lookup.{at_end, value_false}
use Rattle.diagram.proofs.Piecewise.{count_pos, each_select, Two, two_told_apart}
use Rattle.diagram.proofs.Facts.{value_agree}
use Rattle.diagram.proofs.Cofactors.{Kids, edges_are_kids, upd_same, upd_later, upd_within}
use Rattle.diagram.proofs.Apart.{Apart, distinct_ids_apart}
use Rattle.diagram.proofs.Readings.{positions_within, reading, place_reading, holds_reading, positions_reading}
use Rattle.algebra.specs.Changing.{change, emptied}
use Rattle.algebra.specs.Answering.{Answers}
use Rattle.algebra.specs.Narrowing.{SameBefore, Steady, EmptyAnswer}
use Rattle.algebra.proofs.Made.{made_answers}
use Rattle.algebra.proofs.Descending.{descend, Before, descend_value, bottom_child, Changes, change_makes_meaning}

pub emptied_changes : (v : ℕ) → v < variables → Changes v emptied
emptied_changes v hv = record { rising = rises; kids = stay }
  where
    rises : (e : Pieces ℕ) → Rising 0 (top_of v) e → Rising 0 (top_of v) (emptied e)
    rises (last c) h = h
    rises (cut c k e) h = omega arith

    stay : (t : Table) (e : Pieces ℕ) → Each (Child t (suc v)) e → Each (Child t (suc v)) (emptied e)
    stay t (last c) k = k
    stay t (cut c k e) q = (omega arith, rw (at_end t) hv)

-- α before v, p at v, β behind
abbrev mix : Assignment → ℕ → ℕ → Assignment → Assignment
mix α v p β i = cond (ltb i v) (α i) (upd β v p i)

module _ (α : Assignment) (v p : ℕ) (β : Assignment) where
  mix_before : Before v α (mix α v p β)
  mix_before i h = rw (lt-ltb i v h)

  mix_at : mix α v p β v ≡ p
  mix_at = rw (le-ltb v v (omega arith)) (upd_same β v p)

  mix_later : (i : ℕ) → suc v ≤ i → mix α v p β i ≡ β i
  mix_later i h = rw (le-ltb i v (omega arith)) (upd_later β v p i h)

  mix_within : Within α → Within β → p ≤ top_of v → Within (mix α v p β)
  mix_within r q h i = go (ltb i v)
    where
      go : (b : Bool) → cond b (α i) (upd β v p i) ≤ top_of i
      go true = r i
      go false = upd_within β v p q h i

mix_but : (α : Assignment) (v p q : ℕ) (β : Assignment) (i : ℕ) → (i ≡ v → ⊥) → mix α v p β i ≡ mix α v q β i
mix_but α v p q β i n = rw (ne_eqb i v n)

-- readings as assignments, before and after a range variable v
positions_before : (v : ℕ) → v < first_boolean → (ρ σ : Reading) → SameBefore v ρ σ → Before v (positions ρ) (positions σ)
positions_before v hv ρ σ h i l = let q : i < first_boolean = omega arith in rw (lt-ltb i first_boolean q, h i l)

positions_after : (v : ℕ) (σ τ : Reading) → SameBut v σ τ → (i : ℕ) → suc v ≤ i → positions σ i ≡ positions τ i
positions_after v σ τ h i l = rw (h.0 i (λ q. omega arith), h.1 i)

same_before : (v : ℕ) (ρ σ τ : Reading) → SameBefore v ρ σ → SameBut v σ τ → SameBefore v ρ τ
same_before v ρ σ τ a s i l = s.0 i (λ q. omega arith) ∙ a i l

-- the reading of an assignment that is a reading's before v
reading_before : (v : ℕ) → v < first_boolean → (ρ : Reading) (β : Assignment) (w : Within β) → Before v (positions ρ) β → SameBefore v ρ (reading β w)
reading_before v hv ρ β w h i l = let q : i < first_boolean = omega arith in place_reading β w i ∙ rw (h i l, lt-ltb i first_boolean q) (place_at_position (ρ.place i) (ρ.within i q))

reading_but : (v : ℕ) → v < first_boolean → (β γ : Assignment) (w : Within β) (x : Within γ) → ((i : ℕ) → (i ≡ v → ⊥) → γ i ≡ β i) → SameBut v (reading β w) (reading γ x)
reading_but v hv β γ w x g = (
  λ i n. place_reading γ x i ∙ ap place_at (g i n) ∙ sym (place_reading β w i),
  λ i. holds_reading γ x i ∙ held i (is_range i) refl ∙ sym (holds_reading β w i),
)
  where
    held : (i : ℕ) (b : Bool) → is_range i ≡ b → cond b true (ltb (γ i) 1) ≡ cond b true (ltb (β i) 1)
    held i true e = refl
    held i false e = ap (λ (n : ℕ). ltb n 1) (g i (λ q. omega (arith, ltb-false i first_boolean e)))

-- two readings, with the variables before v as in ρ, that differ in v alone and under which the id says different things
abbrev pub Changing : Table → ℕ → Reading → ℕ → Type 0
Changing t v ρ id = (σ : Reading) × (τ : Reading) × SameBefore v ρ σ × SameBut v σ τ × (says t σ id ≡ says t τ id → ⊥)

pub not_steady : (t : Table) (v : ℕ) (ρ : Reading) (id : ℕ) → Changing t v ρ id → Steady t v ρ id → ⊥
not_steady t v ρ id c s = c.4 (s c.0 c.1 c.2 c.3)

module _ (t : Table) (z : Sound t) (v : ℕ) (hv : v < first_boolean) (id : ℕ) (k : Known t id) where
  abbrev whole : Child t 0 id
  whole = (k, omega arith)

  abbrev known : v < variables
  known = omega arith

  -- the id that stands where the variables before v are read as in ρ
  abbrev standing : Reading → ℕ
  standing ρ = descend variables t v (positions ρ) id

  stands : (ρ : Reading) → Child t v (standing ρ)
  stands ρ = bottom_child variables t z v known 0 id whole (omega arith) (positions ρ)

  says_standing : (ρ : Reading) (β : Assignment) → Before v (positions ρ) β → value t β (standing ρ) ≡ value t β id
  says_standing ρ β b = descend_value variables t z v known (positions ρ) β b id k

  -- what the answer says under ρ
  abbrev said : Reading → Pieces ℕ → Bool
  said ρ e = value t (positions ρ) (select (emptied e) (positions ρ v))

  -- no node of v stands there
  steady : (ρ : Reading) (c : ℕ) → Kids t v (standing ρ) (last c) → Steady t v ρ id
  steady ρ c x σ τ a s =
      sym (says_standing ρ (positions σ) (positions_before v hv ρ σ a)) ∙ x.value_is (positions σ)
      ∙ value_agree t z (suc v) (positions σ) (positions τ) (positions_after v σ τ s) c x.kids ∙ sym (x.value_is (positions τ))
      ∙ says_standing ρ (positions τ) (positions_before v hv ρ τ (same_before v ρ σ τ a s))

  -- a node of v stands there: two of its children are told apart
  changing : (ρ : Reading) (c q : ℕ) (e : Pieces ℕ) → Kids t v (standing ρ) (cut c q e) → Changing t v ρ id
  changing ρ c q e x = (
    reading (mix α v y.p β) (inside y.p y.p_top),
    reading (mix α v y.q β) (inside y.q y.q_top),
    reading_before v hv ρ (mix α v y.p β) (inside y.p y.p_top) (mix_before α v y.p β),
    reading_but v hv (mix α v y.p β) (mix α v y.q β) (inside y.p y.p_top) (inside y.q y.q_top) (mix_but α v y.q y.p β),
    λ s. a.apart (sym (at_child y.p y.p_top) ∙ s ∙ at_child y.q y.q_top),
  )
    where
      α : Assignment
      α = positions ρ

      y : Two (top_of v) (cut c q e)
      y = two_told_apart (top_of v) (cut c q e) x.reduced (omega (arith, count_pos e))

      child : (p : ℕ) → Child t (suc v) (select (cut c q e) p)
      child p = each_select (Child t (suc v)) (cut c q e) x.kids p

      a : Apart t (select (cut c q e) y.p) (select (cut c q e) y.q)
      a = distinct_ids_apart t z (select (cut c q e) y.p) (select (cut c q e) y.q) (child y.p).0 (child y.q).0 y.apart

      β : Assignment
      β = a.assigned

      inside : (p : ℕ) → p ≤ top_of v → Within (mix α v p β)
      inside p h = mix_within α v p β (positions_within ρ) a.within h

      at_child : (p : ℕ) (h : p ≤ top_of v) → says t (reading (mix α v p β) (inside p h)) id ≡ value t β (select (cut c q e) p)
      at_child p h =
          ap (λ (γ : Assignment). value t γ id) (positions_reading (mix α v p β) (inside p h)) ∙ sym (says_standing ρ (mix α v p β) (mix_before α v p β)) ∙ x.value_is (mix α v p β)
          ∙ ap (λ (i : ℕ). value t (mix α v p β) (select (cut c q e) i)) (mix_at α v p β) ∙ value_agree t z (suc v) (mix α v p β) β (mix_later α v p β) (select (cut c q e) p) (child p)

  -- under every reading it is one or the other,
  pub steady_or_changing : (ρ : Reading) → Steady t v ρ id ⊎ Changing t v ρ id
  steady_or_changing ρ = go (edges_of t v (standing ρ)) (edges_are_kids t z v (standing ρ) known (stands ρ))
    where
      go : (e : Pieces ℕ) → Kids t v (standing ρ) e → Steady t v ρ id ⊎ Changing t v ρ id
      go (last c) x = inl (steady ρ c x)
      go (cut c q e) x = inr (changing ρ c q e x)

  -- and the answer is as document 01 asks
  said_right : (m : Reading → Bool) → EmptyAnswer t v id m → (ρ : Reading) (e : Pieces ℕ) → Kids t v (standing ρ) e → said ρ e ≡ m ρ
  said_right m h ρ (last c) x = sym (x.value_is (positions ρ)) ∙ says_standing ρ (positions ρ) (λ i l. refl) ∙ sym ((h ρ).1 (steady ρ c x))
  said_right m h ρ (cut c q e) x = value_false t (positions ρ) 1 refl ∙ sym ((h ρ).0 (not_steady t v ρ id (changing ρ c q e x)))

  pub emptied_answers : (m : Reading → Bool) → EmptyAnswer t v id m → Answers t m (change variables emptied t v id)
  emptied_answers m h =
      made_answers (change_makes_meaning v known emptied (emptied_changes v known) variables t z 0 id (omega arith) whole (omega arith)) m
      (λ ρ. said_right m h ρ (edges_of t v (standing ρ)) (edges_are_kids t z v (standing ρ) known (stands ρ)))
