-- Conjunction and disjunction: the answer says both, or either. Assumes nothing.
use mathlib.Core.Path.{◌≡◌, refl, sym, ◌∙◌, ap, ap₂}
use mathlib.Core.Bool.{Bool, true, false, not, ◌&&◌, ◌||◌, and-true, and_self, and-false, and-not_self}
use mathlib.Core.Option.{Option, none, some, none-ne-some, some-ne-none}
use mathlib.Core.Logic.{◌⊎◌, inl, inr}
use Prim.Native.Nat.{ℕ, zero, suc, ◌+◌, ◌≤◌, ◌<◌, min}
use native.Mathlib.Omega.{arith}
use lib.Dec.{eqb}
use borrow.Author.Tests.{eqb-true, eqb-false}
use Rattle.ids.specs.Id.{ref, flip}
use Rattle.ids.proofs.Signs.{ref_flip}
use Rattle.diagram.specs.Table.{variables, top_of, Table, at, Assignment, value, Continues}
use Rattle.diagram.specs.Cofactor.{edges_of}
use Rattle.diagram.specs.Sound.{Known, Child, Sound}
use Rattle.diagram.proofs.Lookup.{at_end, value_true, value_false, value_flip}
use Rattle.diagram.proofs.Facts.{facts_at, var_most}
use Rattle.diagram.proofs.Continuing.{continues_value, continues_child}
use Rattle.diagram.proofs.Cofactors.{edges_are_kids, edges_rising}
use Rattle.diagram.proofs.Either.{either_true}
use Rattle.algebra.specs.Overlay.{overlay}
use Rattle.algebra.specs.Conjunction.{walk_in, create_over, pick, opening, conj_node, conj_step, conj, and, or}
use Rattle.algebra.proofs.Overlays.{select_overlay, rising_overlay, each_overlay}
use Rattle.algebra.proofs.Made.{Made, unchanged, made_same_meaning, weaken}
use Rattle.algebra.proofs.Walking.{created_over}

-- one is FALSE, or they are opposite
pub opposed : (t : Table) (α : Assignment) (x y : ℕ) → (eqb x 1 || (eqb y 1 || eqb (flip x) y)) ≡ true → (value t α x && value t α y) ≡ false
opposed t α x y h = go (either_true (eqb x 1) (eqb y 1 || eqb (flip x) y) h)
  where
    go2 : (eqb y 1 ≡ true) ⊎ (eqb (flip x) y ≡ true) → (value t α x && value t α y) ≡ false
    go2 (inl q) = rw (value_false t α y (eqb-true y 1 q)) (and-false (value t α x))
    go2 (inr q) = rw (← (eqb-true (flip x) y q), value_flip t α x) (and-not_self (value t α x))

    go : (eqb x 1 ≡ true) ⊎ ((eqb y 1 || eqb (flip x) y) ≡ true) → (value t α x && value t α y) ≡ false
    go (inl q) = rw (value_false t α x (eqb-true x 1 q))
    go (inr q) = go2 (either_true (eqb y 1) (eqb (flip x) y) q)

-- an opening answer is known and says both
opened : (t : Table) → Sound t → (u x y c : ℕ) → u ≤ variables → Child t u x → Child t u y → opening x y ≡ some c → Made t u (λ α. value t α x && value t α y) (t, c)
unfolding opening
opened t z u x y c hu kx ky = go (eqb x 0) refl (eqb y 0) refl (eqb x y) refl (eqb x 1 || (eqb y 1 || eqb (flip x) y)) refl
  where
    m : Assignment → Bool
    m α = value t α x && value t α y

    go : (a : Bool) → eqb x 0 ≡ a → (b : Bool) → eqb y 0 ≡ b → (d : Bool) → eqb x y ≡ d → (w : Bool) → (eqb x 1 || (eqb y 1 || eqb (flip x) y)) ≡ w → pick a b d w x y ≡ some c → Made t u m (t, c)
    go true ea b eb d ed w ew q =
        let e : y ≡ c = cc in
        unchanged t z u c (rw e at ky) m (λ α. rw (value_true t α x (eqb-true x 0 ea), e))
    go false ea true eb d ed w ew q =
        let e : x ≡ c = cc in
        unchanged t z u c (rw e at kx) m (λ α. rw (value_true t α y (eqb-true y 0 eb), e) (sym (and-true (value t α c))))
    go false ea false eb true ed w ew q =
        let e : x ≡ c = cc in
        unchanged t z u c (rw e at kx) m (λ α. rw (← (eqb-true x y ed), e) (sym (and_self (value t α c))))
    go false ea false eb false ed true ew q =
        let e : 1 ≡ c = cc in
        unchanged t z u c (rw (← e) (omega arith, rw (at_end t) hu)) m (λ α. value_false t α c (sym e) ∙ sym (opposed t α x y ew))
    go false ea false eb false ed false ew q = absurd (none-ne-some c q)

-- where there is no opening answer, both are nodes
pub neither_is_terminal : (x y : ℕ) → opening x y ≡ none → (2 ≤ x) × (2 ≤ y)
unfolding opening
neither_is_terminal x y = go (eqb x 0) refl (eqb y 0) refl (eqb x y) refl (eqb x 1) refl (eqb y 1) refl
  where
    go : (a : Bool) → eqb x 0 ≡ a → (b : Bool) → eqb y 0 ≡ b → (d : Bool) → eqb x y ≡ d → (v : Bool) → eqb x 1 ≡ v → (w : Bool) → eqb y 1 ≡ w → pick a b d (v || (w || eqb (flip x) y)) x y ≡ none → (2 ≤ x) × (2 ≤ y)
    go true ea b eb d ed v ev w ew q = absurd (some-ne-none y q)
    go false ea true eb d ed v ev w ew q = absurd (some-ne-none x q)
    go false ea false eb true ed v ev w ew q = absurd (some-ne-none x q)
    go false ea false eb false ed true ev w ew q = absurd (some-ne-none 1 q)
    go false ea false eb false ed false ev true ew q = absurd (some-ne-none 1 q)
    go false ea false eb false ed false ev false ew q = (omega (arith, eqb-false x 0 ea, eqb-false x 1 ev), omega (arith, eqb-false y 0 eb, eqb-false y 1 ew))

-- both, at a variable that neither id tests anything before
module _ (t : Table) (z : Sound t) (f : Table → ℕ × ℕ → Table × ℕ) (v x y : ℕ) (hv : v < variables) (kx : Child t v x) (ky : Child t v y)
    (ok : (s : Table) → Sound s → Continues t s → (p : ℕ × ℕ) → Child t (suc v) p.0 × Child t (suc v) p.1 → Made s (suc v) (λ α. value t α p.0 && value t α p.1) (f s p)) where
  both_at : (low_first : Bool) → Made t v (λ α. value t α x && value t α y) (create_over v (walk_in low_first f t (overlay (edges_of t v x) (edges_of t v y))))
  both_at low_first =
      let ex = edges_are_kids t z v x hv kx in
      let ey = edges_are_kids t z v y hv ky in
      let m : ℕ × ℕ → Assignment → Bool = λ p α. value t α p.0 && value t α p.1 in
      made_same_meaning (created_over t z f v hv (λ p. Child t (suc v) p.0 × Child t (suc v) p.1) m ok (overlay (edges_of t v x) (edges_of t v y))
      (rising_overlay 0 (top_of v) (edges_of t v x) (edges_of t v y) (edges_rising t z v x hv kx) (edges_rising t z v y hv ky))
      (each_overlay (Child t (suc v)) (Child t (suc v)) (edges_of t v x) (edges_of t v y) ex.kids ey.kids) low_first)
      (λ α. ap (λ (p : ℕ × ℕ). m p α) (select_overlay (edges_of t v x) (edges_of t v y) (α v)) ∙ sym (ap₂ ◌&&◌ (ex.value_is α) (ey.value_is α)))

pub conj_says_both : (n : ℕ) (t : Table) → Sound t → (u x y : ℕ) → Child t u x → Child t u y → variables < u + n → Made t u (λ α. value t α x && value t α y) (conj n t x y)
unfolding conj conj_step conj_node
conj_says_both zero t z u x y kx ky h = absurd (omega (arith, var_most t z (ref x) kx.0, kx.1))
conj_says_both (suc n) t z u x y kx ky h = go (opening x y) refl (λ s zs v p k l. conj_says_both n s zs (suc v) p.0 p.1 k l)
  where
    f : Table → ℕ × ℕ → Table × ℕ
    f s p = conj n s p.0 p.1

    go : (o : Option ℕ) → opening x y ≡ o
        → ((s : Table) → Sound s → (v : ℕ) (p : ℕ × ℕ) → Child s (suc v) p.0 → Child s (suc v) p.1 → variables < suc v + n → Made s (suc v) (λ α. value s α p.0 && value s α p.1) (f s p))
        → Made t u (λ α. value t α x && value t α y) (conj_step f t x y o)
    go (some c) q rec = opened t z u x y c (omega (arith, var_most t z (ref x) kx.0, kx.1)) kx ky q
    go none q rec =
        let i = neither_is_terminal x y q in
        let a = (at t (ref x)).var in
        let b = (at t (ref y)).var in
        let fx = facts_at t z (ref x) (omega arith) kx.0 in
        weaken t u (min a b) _ _ (omega (arith, kx.1, ky.1))
        (both_at t z f (min a b) x y (omega (arith, fx.known)) (kx.0, omega arith) (ky.0, omega arith)
        (λ s zs g p k. made_same_meaning (rec s zs (min a b) p (continues_child g (suc (min a b)) p.0 k.0) (continues_child g (suc (min a b)) p.1 k.1) (omega (arith, h, kx.1, ky.1)))
        (λ α. ap₂ ◌&&◌ (continues_value g α p.0 k.0.0) (continues_value g α p.1 k.1.0)))
        _)

module _ (t : Table) (z : Sound t) (x y : ℕ) (kx : Known t x) (ky : Known t y) where
  pub and_made : Made t 0 (λ α. value t α x && value t α y) (and t x y)
  and_made = conj_says_both (suc variables) t z 0 x y (kx, omega arith) (ky, omega arith) (omega arith)

-- an answer negated, for no more nodes
pub flip_made : {t : Table} {u : ℕ} {m : Assignment → Bool} {out : Table × ℕ} → Made t u m out → Made t u (λ α. not (m α)) (out.0, flip out.1)
flip_made {out = out} x = record {
  sound = x.sound;
  continues = x.continues;
  child = rw (ref_flip out.1) x.child;
  means = λ α. value_flip out.0 α out.1 ∙ ap not (x.means α);
  used = λ r n l. rw (ref_flip out.1) (x.used r n l);
}

de_morgan : (a b : Bool) → not (not a && not b) ≡ (a || b)
de_morgan true b = refl
de_morgan false true = refl
de_morgan false false = refl

pub or_made : (t : Table) → Sound t → (x y : ℕ) → Known t x → Known t y → Made t 0 (λ α. value t α x || value t α y) (or t x y)
unfolding or
or_made t z x y kx ky =
    made_same_meaning (flip_made (and_made t z (flip x) (flip y) (rw (ref_flip x) kx) (rw (ref_flip y) ky)))
    (λ α. rw (value_flip t α x, value_flip t α y) (de_morgan (value t α x) (value t α y)))
