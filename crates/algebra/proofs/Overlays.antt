-- Laws of overlay and merge: what is selected, that cuts rise, and what each value keeps. Assumes nothing.
use mathlib.Core.Path.{◌≡◌, refl, sym, ◌∙◌, ap}
use mathlib.Core.Bool.{Bool, true, false, cond}
use Prim.Native.Nat.{ℕ, ◌≤◌, ◌<◌}
use native.Mathlib.Omega.{arith}
use native.Mathlib.Decide.{ℕ_discrete}
use lib.Dec.{ltb, leb}
use borrow.Author.Tests.{ltb-true, ltb-false, leb-true, leb-false, eq-eqb, ne_eqb}
use Rattle.diagram.specs.Pieces.{Pieces, last, cut, select}
use Rattle.diagram.specs.Shape.{first, Each, Rising, Reduced}
use Rattle.diagram.proofs.Piecewise.{select_left, select_right, select_before, reduced_rising, reduced_down}
use Rattle.algebra.specs.Overlay.{below, beside, above, overlay, join, merge}

module _ {B : Type 0} where
  pub select_above : (k : ℕ) (f : Pieces B) (p : ℕ) → k ≤ p → select (above k f) p ≡ select f p
  unfolding above
  select_above k (last b) p h = refl
  select_above k (cut b l f) p h = go (leb l k) refl (select_above k f p h)
    where
      go : (q : Bool) → leb l k ≡ q → select (above k f) p ≡ select f p → select (cond q (above k f) (cut b l f)) p ≡ select (cut b l f) p
      go true e i = i ∙ sym (select_right b l f p (omega (arith, leb-true l k e)))
      go false e i = refl

  pub rising_above : (lo t k : ℕ) (f : Pieces B) → k ≤ t → Rising lo t f → Rising k t (above k f)
  unfolding above
  rising_above lo t k (last b) h r = h
  rising_above lo t k (cut b l f) h r = go (leb l k) refl (rising_above l t k f h r.2)
    where
      go : (q : Bool) → leb l k ≡ q → Rising k t (above k f) → Rising k t (cond q (above k f) (cut b l f))
      go true e i = i
      go false e i = (leb-false l k e, r.1, r.2)

  pub each_above : (Q : B → Type 0) (k : ℕ) (f : Pieces B) → Each Q f → Each Q (above k f)
  unfolding above
  each_above Q k (last b) h = h
  each_above Q k (cut b l f) h = go (leb l k) (each_above Q k f h.1)
    where
      go : (q : Bool) → Each Q (above k f) → Each Q (cond q (above k f) (cut b l f))
      go true i = i
      go false i = h

module _ {A B : Type 0} (a : A) where
  select_beside : (f : Pieces B) (p : ℕ) → select (beside a f) p ≡ (a, select f p)
  unfolding beside
  select_beside (last b) p = refl
  select_beside (cut b l f) p = go (ltb p l) (select_beside f p)
    where
      go : (q : Bool) → select (beside a f) p ≡ (a, select f p) → cond q (a, b) (select (beside a f) p) ≡ (a, cond q b (select f p))
      go true i = refl
      go false i = i

  rising_beside : (lo t : ℕ) (f : Pieces B) → Rising lo t f → Rising lo t (beside a f)
  unfolding beside
  rising_beside lo t (last b) h = h
  rising_beside lo t (cut b l f) h = (h.0, h.1, rising_beside l t f h.2)

  each_beside : (P : A × B → Type 0) (Q : B → Type 0) → ((b : B) → Q b → P (a, b)) → (f : Pieces B) → Each Q f → Each P (beside a f)
  unfolding beside
  each_beside P Q g (last b) h = g b h
  each_beside P Q g (cut b l f) h = (g b h.0, each_beside P Q g f h.1)

  below_left : (k : ℕ) (f : Pieces B) (r : Pieces (A × B)) (p : ℕ) → p < k → select (below a k f r) p ≡ (a, select f p)
  unfolding below
  below_left k (last b) r p h = select_left (a, b) k r p h
  below_left k (cut b l f) r p h = go (ltb l k) refl (ltb p l) refl (below_left k f r p h)
    where
      go : (q : Bool) → ltb l k ≡ q → (s : Bool) → ltb p l ≡ s → select (below a k f r) p ≡ (a, select f p) → select (cond q (cut (a, b) l (below a k f r)) (cut (a, b) k r)) p ≡ (a, cond s b (select f p))
      go true e true x i = select_left (a, b) l (below a k f r) p (ltb-true p l x)
      go true e false x i = select_right (a, b) l (below a k f r) p (ltb-false p l x) ∙ i
      go false e true x i = select_left (a, b) k r p h
      go false e false x i = absurd (omega (arith, ltb-false l k e, ltb-false p l x))

  below_right : (k : ℕ) (f : Pieces B) (r : Pieces (A × B)) (p : ℕ) → k ≤ p → select (below a k f r) p ≡ select r p
  unfolding below
  below_right k (last b) r p h = select_right (a, b) k r p h
  below_right k (cut b l f) r p h = go (ltb l k) refl (below_right k f r p h)
    where
      go : (q : Bool) → ltb l k ≡ q → select (below a k f r) p ≡ select r p → select (cond q (cut (a, b) l (below a k f r)) (cut (a, b) k r)) p ≡ select r p
      go true e i = select_right (a, b) l (below a k f r) p (omega (arith, ltb-true l k e)) ∙ i
      go false e i = select_right (a, b) k r p h

  rising_below : (lo t k : ℕ) (f : Pieces B) (r : Pieces (A × B)) → lo < k → k ≤ t → Rising lo t f → Rising k t r → Rising lo t (below a k f r)
  unfolding below
  rising_below lo t k (last b) r h g i j = (h, g, j)
  rising_below lo t k (cut b l f) r h g i j = go (ltb l k) refl (λ x. rising_below l t k f r x g i.2 j)
    where
      go : (q : Bool) → ltb l k ≡ q → (l < k → Rising l t (below a k f r)) → Rising lo t (cond q (cut (a, b) l (below a k f r)) (cut (a, b) k r))
      go true e x = (i.0, i.1, x (ltb-true l k e))
      go false e x = (h, g, j)

  each_below : (P : A × B → Type 0) (Q : B → Type 0) → ((b : B) → Q b → P (a, b)) → (k : ℕ) (f : Pieces B) (r : Pieces (A × B)) → Each Q f → Each P r → Each P (below a k f r)
  unfolding below
  each_below P Q g k (last b) r h j = (g b h, j)
  each_below P Q g k (cut b l f) r h j = go (ltb l k) (each_below P Q g k f r h.1 j)
    where
      go : (q : Bool) → Each P (below a k f r) → Each P (cond q (cut (a, b) l (below a k f r)) (cut (a, b) k r))
      go true x = (g b h.0, x)
      go false x = (g b h.0, j)

module _ {A B : Type 0} where
  pub select_overlay : (e : Pieces A) (f : Pieces B) (p : ℕ) → select (overlay e f) p ≡ (select e p, select f p)
  unfolding overlay
  select_overlay (last a) f p = select_beside a f p
  select_overlay (cut a k e) f p = go (ltb p k) refl (select_overlay e (above k f) p)
    where
      go : (q : Bool) → ltb p k ≡ q → select (overlay e (above k f)) p ≡ (select e p, select (above k f) p) → select (below a k f (overlay e (above k f))) p ≡ (cond q a (select e p), select f p)
      go true x i = below_left a k f (overlay e (above k f)) p (ltb-true p k x)
      go false x i =
          let h : k ≤ p = ltb-false p k x in
          below_right a k f (overlay e (above k f)) p h ∙ i ∙ ap (λ (y : B). (select e p, y)) (select_above k f p h)

  pub rising_overlay : (lo t : ℕ) (e : Pieces A) (f : Pieces B) → Rising lo t e → Rising lo t f → Rising lo t (overlay e f)
  unfolding overlay
  rising_overlay lo t (last a) f h i = rising_beside a lo t f i
  rising_overlay lo t (cut a k e) f h i =
      rising_below a lo t k f (overlay e (above k f)) h.0 h.1 i (rising_overlay k t e (above k f) h.2 (rising_above lo t k f h.1 i))

  pub each_overlay : (P : A → Type 0) (Q : B → Type 0) (e : Pieces A) (f : Pieces B) → Each P e → Each Q f → Each (λ x. P x.0 × Q x.1) (overlay e f)
  unfolding overlay
  each_overlay P Q (last a) f h i = each_beside a (λ x. P x.0 × Q x.1) Q (λ b q. (h, q)) f i
  each_overlay P Q (cut a k e) f h i =
      each_below a (λ x. P x.0 × Q x.1) Q (λ b q. (h.0, q)) k f (overlay e (above k f)) i (each_overlay P Q e (above k f) h.1 (each_above Q k f i))

-- merging: a value joins a neighbour that is like it, and no other
pub join_same : (c k : ℕ) (e : Pieces ℕ) → c ≡ first e → join c k e ≡ e
unfolding join
join_same c k e q = rw (eq-eqb c (first e) q)

pub join_other : (c k : ℕ) (e : Pieces ℕ) → (c ≡ first e → ⊥) → join c k e ≡ cut c k e
unfolding join
join_other c k e n = rw (ne_eqb c (first e) n)

select_join : (c k t : ℕ) (e : Pieces ℕ) (p : ℕ) → Rising k t e → select (join c k e) p ≡ select (cut c k e) p
select_join c k t e p h = go (ℕ_discrete c (first e)) (ltb p k) refl
  where
    go : Dec (c ≡ first e) → (s : Bool) → ltb p k ≡ s → select (join c k e) p ≡ cond s c (select e p)
    go (yes q) true y = rw (join_same c k e q) (select_before k t e p h (omega (arith, ltb-true p k y)) ∙ sym q)
    go (yes q) false y = rw (join_same c k e q)
    go (no n) true y = rw (join_other c k e n) (select_left c k e p (ltb-true p k y))
    go (no n) false y = rw (join_other c k e n) (select_right c k e p (ltb-false p k y))

reduced_join : (b t c k : ℕ) (e : Pieces ℕ) → b < k → k ≤ t → Reduced k t e → Reduced b t (join c k e)
reduced_join b t c k e h i j = go (ℕ_discrete c (first e))
  where
    go : Dec (c ≡ first e) → Reduced b t (join c k e)
    go (yes q) = rw (join_same c k e q) (reduced_down b k t e (omega arith) j)
    go (no n) = rw (join_other c k e n) (h, i, n, j)

each_join : (P : ℕ → Type 0) (c k : ℕ) (e : Pieces ℕ) → P c → Each P e → Each P (join c k e)
each_join P c k e h i = go (ℕ_discrete c (first e))
  where
    go : Dec (c ≡ first e) → Each P (join c k e)
    go (yes q) = rw (join_same c k e q) i
    go (no n) = rw (join_other c k e n) (h, i)

-- merged edges have no two neighbours alike, and select what was selected
pub reduced_merge : (b t : ℕ) (e : Pieces ℕ) → Rising b t e → Reduced b t (merge e)
unfolding merge
reduced_merge b t (last c) h = h
reduced_merge b t (cut c k e) h = reduced_join b t c k (merge e) h.0 h.1 (reduced_merge k t e h.2)

pub select_merge : (b t : ℕ) (e : Pieces ℕ) → Rising b t e → (p : ℕ) → select (merge e) p ≡ select e p
unfolding merge
select_merge b t (last c) h p = refl
select_merge b t (cut c k e) h p =
    select_join c k t (merge e) p (reduced_rising k t (merge e) (reduced_merge k t e h.2)) ∙ ap (λ (x : ℕ). cond (ltb p k) c x) (select_merge k t e h.2 p)

pub each_merge : (P : ℕ → Type 0) (e : Pieces ℕ) → Each P e → Each P (merge e)
unfolding merge
each_merge P (last c) h = h
each_merge P (cut c k e) h = each_join P c k (merge e) h.0 (each_merge P e h.1)

-- of edges with no two neighbours alike there is none to merge
pub merge_reduced : (b t : ℕ) (e : Pieces ℕ) → Reduced b t e → merge e ≡ e
unfolding merge join
merge_reduced b t (last c) h = refl
merge_reduced b t (cut c k e) h = rw (merge_reduced k t e h.3, ne_eqb c (first e) h.2)
