-- Conjunction of x and y makes what conjunction of y and x makes: the same nodes, in the same order, and the same id. The source
-- hands the pair on turned round where only the second operand tests the variable; this says that nothing hangs on it. Assumes nothing.
use mathlib.Core.Path.{◌≡◌, refl, sym, ◌∙◌, ap, ap₂}
use mathlib.Core.Bool.{Bool, true, false, ◌||◌}
use mathlib.Core.Option.{Option, none, some}
use Prim.Native.Nat.{ℕ, zero, suc, ◌+◌, ◌≤◌, ◌<◌, min}
use native.Mathlib.Omega.{arith}
use native.Mathlib.Decide.{ℕ_discrete, dec_lt}
use lib.Dec.{eqb}
use borrow.Author.Tests.{lt-ltb, le-ltb, le-leb, lt-leb, eqb-true, eq-eqb, ne_eqb}
use Rattle.ids.specs.Id.{ref, flip}
use Rattle.diagram.specs.Pieces.{Pieces, last, cut}
use Rattle.diagram.specs.Shape.{count, Each, Rising}
use Rattle.diagram.specs.Table.{variables, top_of, Table, at, Assignment, Continues, same}
use Rattle.diagram.specs.Cofactor.{map, edges_of}
use Rattle.diagram.specs.Sound.{Known, Child, Sound}
use Rattle.diagram.proofs.Facts.{facts_at}
use Rattle.diagram.proofs.Continuing.{continues_child, continues_trans}
use Rattle.diagram.proofs.Cofactors.{edges_are_kids, edges_rising}
use Rattle.algebra.specs.Overlay.{below, beside, above, overlay}
use Rattle.algebra.specs.Conjunction.{walk, walk_back, walk_in, create_over, pick, opening, low_first, conj_node, conj_step, conj, and}
use Rattle.algebra.proofs.Overlays.{each_overlay}
use Rattle.algebra.proofs.Made.{Made}
use Rattle.algebra.proofs.Conjoining.{neither_is_terminal, conj_says_both}

abbrev swap : {A B : Type 0} → A × B → B × A
swap p = (p.1, p.0)

-- the overlay of two lists of pieces, by which of their first cuts comes first
pub above_same : {B : Type 0} (k t : ℕ) (f : Pieces B) → Rising k t f → above k f ≡ f
unfolding above
above_same k t (last b) r = refl
above_same k t (cut b l f) r = rw (lt-leb l k r.0)

module _ {A B : Type 0} (a : A) (k : ℕ) (e : Pieces A) (b : B) (l : ℕ) (f : Pieces B) where
  pub overlay_right : l < k → overlay (cut a k e) (cut b l f) ≡ cut (a, b) l (overlay (cut a k e) f)
  unfolding overlay below above
  overlay_right h = rw (lt-ltb l k h, le-leb l k (omega arith))

  pub overlay_left : k < l → overlay (cut a k e) (cut b l f) ≡ cut (a, b) k (overlay e (cut b l f))
  unfolding overlay below above
  overlay_left h = rw (le-ltb l k (omega arith), lt-leb l k h)

  pub overlay_both : (t : ℕ) → l ≡ k → Rising k t f → overlay (cut a k e) (cut b l f) ≡ cut (a, b) k (overlay e f)
  unfolding overlay below above
  overlay_both t h r = rw (le-ltb l k (omega arith), le-leb l k (omega arith), above_same k t f r)

overlay_swap : {A B : Type 0} (n lo t : ℕ) (e : Pieces A) (f : Pieces B) → count e + count f ≤ n → Rising lo t e → Rising lo t f → overlay f e ≡ map swap (overlay e f)
unfolding overlay beside below above map
overlay_swap zero lo t (last a) f h r s = absurd (omega arith)
overlay_swap zero lo t (cut a k e) f h r s = absurd (omega arith)
overlay_swap (suc n) lo t (last a) (last b) h r s = refl
overlay_swap (suc n) lo t (last a) (cut b l f) h r s = ap (cut (b, a) l) (overlay_swap n l t (last a) f (omega arith) (omega (arith, s.1)) s.2)
overlay_swap (suc n) lo t (cut a k e) (last b) h r s = ap (cut (b, a) k) (overlay_swap n k t e (last b) (omega arith) r.2 (omega (arith, r.1)))
overlay_swap (suc n) lo t (cut a k e) (cut b l f) h r s = go (dec_lt l k) (dec_lt k l)
    (λ i. overlay_swap n l t (cut a k e) f (omega arith) (i, r.1, r.2) s.2)
    (λ i. overlay_swap n k t e (cut b l f) (omega arith) r.2 (i, s.1, s.2))
    (λ q. overlay_swap n k t e f (omega arith) r.2 (rw q at s.2))
  where
    go : Dec (l < k) → Dec (k < l) → (l < k → overlay f (cut a k e) ≡ map swap (overlay (cut a k e) f)) → (k < l → overlay (cut b l f) e ≡ map swap (overlay e (cut b l f)))
        → (l ≡ k → overlay f e ≡ map swap (overlay e f)) → overlay (cut b l f) (cut a k e) ≡ map swap (overlay (cut a k e) (cut b l f))
    go (yes i) y x z w = overlay_left b l f a k e i ∙ ap (cut (b, a) l) (x i) ∙ sym (ap (map swap) (overlay_right a k e b l f i))
    go (no i) (yes j) x z w = overlay_right b l f a k e j ∙ ap (cut (b, a) k) (z j) ∙ sym (ap (map swap) (overlay_left a k e b l f j))
    go (no i) (no j) x z w =
        let q : l ≡ k = omega arith in
        overlay_both b l f a k e t (sym q) (rw (sym q) at r.2) ∙ ap₂ (λ (c : ℕ) (p : Pieces _). cut (b, a) c p) q (w q) ∙ sym (ap (map swap) (overlay_both a k e b l f t q (rw q at s.2)))

-- two operations that agree on every sound table that continues t₀ go over pieces alike
module _ {A : Type 0} (f g : Table → A → Table × ℕ) (t₀ : Table) (P : A → Type 0)
    (keeps : (s : Table) → Sound s → Continues t₀ s → (a : A) → P a → Sound (f s a).0 × Continues s (f s a).0)
    (agree : (s : Table) → Sound s → Continues t₀ s → (a : A) → P a → g s a ≡ f s a) where
  walk_agree : (t : Table) → Sound t → Continues t₀ t → (e : Pieces A) → Each P e → walk g t e ≡ walk f t e
  unfolding walk
  walk_agree t z c (last a) h = ap (λ (x : Table × ℕ). (x.0, last x.1)) (agree t z c a h)
  walk_agree t z c (cut a k e) h =
      let x = keeps t z c a h.0 in
      ap (λ (y : Table × ℕ). ((walk g y.0 e).0, cut y.1 k (walk g y.0 e).1)) (agree t z c a h.0)
      ∙ ap (λ (w : Table × Pieces ℕ). (w.0, cut (f t a).1 k w.1)) (walk_agree (f t a).0 x.0 (continues_trans c x.1) e h.1)

  walk_back_keeps : (t : Table) → Sound t → Continues t₀ t → (e : Pieces A) → Each P e → Sound (walk_back f t e).0 × Continues t (walk_back f t e).0
  unfolding walk_back
  walk_back_keeps t z c (last a) h = keeps t z c a h
  walk_back_keeps t z c (cut a k e) h =
      let w = walk_back_keeps t z c e h.1 in
      let x = keeps (walk_back f t e).0 w.0 (continues_trans c w.1) a h.0 in
      (x.0, continues_trans w.1 x.1)

  walk_back_agree : (t : Table) → Sound t → Continues t₀ t → (e : Pieces A) → Each P e → walk_back g t e ≡ walk_back f t e
  unfolding walk_back
  walk_back_agree t z c (last a) h = ap (λ (x : Table × ℕ). (x.0, last x.1)) (agree t z c a h)
  walk_back_agree t z c (cut a k e) h =
      let w = walk_back_keeps t z c e h.1 in
      ap (λ (y : Table × Pieces ℕ). ((g y.0 a).0, cut (g y.0 a).1 k y.1)) (walk_back_agree t z c e h.1)
      ∙ ap (λ (x : Table × ℕ). (x.0, cut x.1 k (walk_back f t e).1)) (agree (walk_back f t e).0 w.0 (continues_trans c w.1) a h.0)

  pub walk_in_agree : (low_goes_first : Bool) (t : Table) → Sound t → Continues t₀ t → (e : Pieces A) → Each P e → walk_in low_goes_first g t e ≡ walk_in low_goes_first f t e
  unfolding walk_in
  walk_in_agree true t z c e h = walk_back_agree t z c e h
  walk_in_agree false t z c e h = walk_agree t z c e h

-- to go over changed values is to change each first
module _ {A B : Type 0} (f : Table → B → Table × ℕ) (g : A → B) where
  walk_map : (t : Table) (e : Pieces A) → walk f t (map g e) ≡ walk (λ s a. f s (g a)) t e
  unfolding walk map
  walk_map t (last a) = refl
  walk_map t (cut a k e) = ap (λ (w : Table × Pieces ℕ). (w.0, cut (f t (g a)).1 k w.1)) (walk_map (f t (g a)).0 e)

  walk_back_map : (t : Table) (e : Pieces A) → walk_back f t (map g e) ≡ walk_back (λ s a. f s (g a)) t e
  unfolding walk_back map
  walk_back_map t (last a) = refl
  walk_back_map t (cut a k e) = ap (λ (w : Table × Pieces ℕ). ((f w.0 (g a)).0, cut (f w.0 (g a)).1 k w.1)) (walk_back_map t e)

  walk_in_map : (low_goes_first : Bool) (t : Table) (e : Pieces A) → walk_in low_goes_first f t (map g e) ≡ walk_in low_goes_first (λ s a. f s (g a)) t e
  unfolding walk_in
  walk_in_map true t e = walk_back_map t e
  walk_in_map false t e = walk_map t e

-- the opening tests answer both orders alike
eqb_comm : (a b : ℕ) → eqb a b ≡ eqb b a
eqb_comm a b = go (ℕ_discrete a b)
  where
    go : Dec (a ≡ b) → eqb a b ≡ eqb b a
    go (yes e) = eq-eqb a b e ∙ sym (eq-eqb b a (sym e))
    go (no n) = ne_eqb a b n ∙ sym (ne_eqb b a (λ e. n (sym e)))

opposite_comm : (a b : ℕ) → eqb (flip a) b ≡ eqb (flip b) a
opposite_comm a b = go (ℕ_discrete (flip a) b)
  where
    go : Dec (flip a ≡ b) → eqb (flip a) b ≡ eqb (flip b) a
    go (yes e) = eq-eqb (flip a) b e ∙ sym (eq-eqb (flip b) a (omega arith))
    go (no n) = ne_eqb (flip a) b n ∙ sym (ne_eqb (flip b) a (λ e. n (omega arith)))

or_turn : (p q r : Bool) → (p || (q || r)) ≡ (q || (p || r))
or_turn true true r = refl
or_turn true false r = refl
or_turn false true r = refl
or_turn false false r = refl

opening_comm : (x y : ℕ) → opening x y ≡ opening y x
unfolding opening
opening_comm x y =
    go (eqb x 0) refl (eqb y 0) refl (eqb x y) refl
    ∙ ap₂ (λ (d w : Bool). pick (eqb y 0) (eqb x 0) d w y x) (eqb_comm x y)
    (or_turn (eqb x 1) (eqb y 1) (eqb (flip x) y) ∙ ap (λ (w : Bool). eqb y 1 || (eqb x 1 || w)) (opposite_comm x y))
  where
    w : Bool
    w = eqb x 1 || (eqb y 1 || eqb (flip x) y)

    last_tests : (w : Bool) → pick false false false w x y ≡ pick false false false w y x
    last_tests true = refl
    last_tests false = refl

    go : (a : Bool) → eqb x 0 ≡ a → (b : Bool) → eqb y 0 ≡ b → (d : Bool) → eqb x y ≡ d → pick a b d w x y ≡ pick b a d w y x
    go true p true q d r = ap some (eqb-true y 0 q ∙ sym (eqb-true x 0 p))
    go true p false q d r = refl
    go false p true q d r = refl
    go false p false q true r = ap some (eqb-true x y r)
    go false p false q false r = last_tests w

-- at a variable that neither id tests anything before, from an operation that answers both orders of a pair alike
module _ (t : Table) (z : Sound t) (f : Table → ℕ × ℕ → Table × ℕ) (v x y : ℕ) (hv : v < variables) (kx : Child t v x) (ky : Child t v y)
    (keeps : (s : Table) → Sound s → Continues t s → (p : ℕ × ℕ) → Child t (suc v) p.0 × Child t (suc v) p.1 → Sound (f s p).0 × Continues s (f s p).0)
    (agree : (s : Table) → Sound s → Continues t s → (p : ℕ × ℕ) → Child t (suc v) p.0 × Child t (suc v) p.1 → f s (swap p) ≡ f s p) where
  commute_at : (low_goes_first : Bool) → walk_in low_goes_first f t (overlay (edges_of t v y) (edges_of t v x)) ≡ walk_in low_goes_first f t (overlay (edges_of t v x) (edges_of t v y))
  commute_at low_goes_first =
      let ex = edges_of t v x in
      let ey = edges_of t v y in
      ap (walk_in low_goes_first f t) (overlay_swap (count ex + count ey) 0 (top_of v) ex ey (omega arith) (edges_rising t z v x hv kx) (edges_rising t z v y hv ky))
      ∙ walk_in_map f swap low_goes_first t (overlay ex ey)
      ∙ walk_in_agree f (λ s p. f s (swap p)) t (λ p. Child t (suc v) p.0 × Child t (suc v) p.1) keeps agree low_goes_first t z same (overlay ex ey)
      (each_overlay (Child t (suc v)) (Child t (suc v)) ex ey (edges_are_kids t z v x hv kx).kids (edges_are_kids t z v y hv ky).kids)

commute : (n : ℕ) (t : Table) → Sound t → (u x y : ℕ) → Child t u x → Child t u y → variables < u + n → conj n t y x ≡ conj n t x y
unfolding conj conj_step conj_node
commute zero t z u x y kx ky h = refl
commute (suc n) t z u x y kx ky h = ap (conj_step f t y x) (opening_comm y x) ∙ go (opening x y) refl (λ s zs v p k l. commute n s zs (suc v) p.0 p.1 k l)
  where
    f : Table → ℕ × ℕ → Table × ℕ
    f s p = conj n s p.0 p.1

    a : ℕ
    a = (at t (ref x)).var

    b : ℕ
    b = (at t (ref y)).var

    v : ℕ
    v = min a b

    go : (o : Option ℕ) → opening x y ≡ o
        → ((s : Table) → Sound s → (v : ℕ) (p : ℕ × ℕ) → Child s (suc v) p.0 → Child s (suc v) p.1 → variables < suc v + n → conj n s p.1 p.0 ≡ conj n s p.0 p.1)
        → conj_step f t y x o ≡ conj_step f t x y o
    go (some c) q rec = refl
    go none q rec =
        let i = neither_is_terminal x y q in
        let fx = facts_at t z (ref x) (omega arith) kx.0 in
        let turned : min b a ≡ min a b = omega arith in
        let later : variables < suc v + n = omega (arith, h, kx.1, ky.1) in
        ap₂ (λ (w : ℕ) (e : Bool). create_over w (walk_in (low_first w e) f t (overlay (edges_of t w y) (edges_of t w x)))) turned (eqb_comm b a)
        ∙ ap (create_over v) (commute_at t z f v x y (omega (arith, fx.known)) (kx.0, omega arith) (ky.0, omega arith)
        (λ s zs c p k. keeps s zs (conj_says_both n s zs (suc v) p.0 p.1 (continues_child c (suc v) p.0 k.0) (continues_child c (suc v) p.1 k.1) later))
        (λ s zs c p k. rec s zs v p (continues_child c (suc v) p.0 k.0) (continues_child c (suc v) p.1 k.1) later) (low_first v (eqb a b)))
      where
        keeps : (s : Table) → Sound s → {w : ℕ} {m : Assignment → Bool} {out : Table × ℕ} → Made s w m out → Sound out.0 × Continues s out.0
        keeps s zs x = (x.sound, x.continues)

pub and_commutes : (t : Table) → Sound t → (x y : ℕ) → Known t x → Known t y → and t y x ≡ and t x y
and_commutes t z x y kx ky = commute (suc variables) t z 0 x y (kx, omega arith) (ky, omega arith) (omega arith)
