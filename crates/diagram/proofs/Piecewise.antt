-- Laws of pieces: what is selected, and where two lists of pieces differ. Assumes nothing.
use mathlib.Core.Path.{◌≡◌, refl, sym, ◌∙◌, ap}
use mathlib.Core.Bool.{Bool, true, false, cond}
use Prim.Native.Nat.{ℕ, ◌≤◌, ◌<◌, min}
use native.Mathlib.Omega.{arith}
use native.Mathlib.Decide.{ℕ_discrete}
use lib.Dec.{ltb}
use borrow.Author.Tests.{ltb-true, ltb-false, lt-ltb, le-ltb}
use Rattle.diagram.specs.Pieces.{Pieces, last, cut, select}
use Rattle.diagram.specs.Shape.{first, count, Each, Rising, Reduced}

module _ {A : Type 0} where
  pub select_left : (a : A) (k : ℕ) (e : Pieces A) (p : ℕ) → p < k → select (cut a k e) p ≡ a
  select_left a k e p h = rw (lt-ltb p k h)

  pub select_right : (a : A) (k : ℕ) (e : Pieces A) (p : ℕ) → k ≤ p → select (cut a k e) p ≡ select e p
  select_right a k e p h = rw (le-ltb p k h)

  pub count_pos : (e : Pieces A) → 1 ≤ count e
  count_pos (last a) = omega arith
  count_pos (cut a k e) = omega arith

  pub reduced_rising : (b t : ℕ) (e : Pieces A) → Reduced b t e → Rising b t e
  reduced_rising b t (last a) h = h
  reduced_rising b t (cut a k e) h = (h.0, h.1, reduced_rising k t e h.3)

  pub rising_down : (a b t : ℕ) (e : Pieces A) → a ≤ b → Rising b t e → Rising a t e
  rising_down a b t (last x) l h = omega arith
  rising_down a b t (cut x k e) l h = (omega arith, h.1, h.2)

  pub reduced_down : (a b t : ℕ) (e : Pieces A) → a ≤ b → Reduced b t e → Reduced a t e
  reduced_down a b t (last x) l h = omega arith
  reduced_down a b t (cut x k e) l h = (omega arith, h.1, h.2, h.3)

  -- up to the lower end the first value is selected,
  pub select_before : (b t : ℕ) (e : Pieces A) (p : ℕ) → Rising b t e → p ≤ b → select e p ≡ first e
  select_before b t (last a) p h l = refl
  select_before b t (cut a k e) p h l = select_left a k e p (omega arith)

  pub select_low : (b t : ℕ) (e : Pieces A) → Reduced b t e → select e b ≡ first e
  select_low b t e h = select_before b t e b (reduced_rising b t e h) (omega arith)

  -- and beyond the upper end what is selected there
  pub select_beyond : (b t : ℕ) (e : Pieces A) (p : ℕ) → Rising b t e → select e p ≡ select e (min p t)
  select_beyond b t (last a) p h = refl
  select_beyond b t (cut a k e) p h = go (ltb p k) refl (select_beyond k t e p h.2)
    where
      go : (q : Bool) → ltb p k ≡ q → select e p ≡ select e (min p t) → cond q a (select e p) ≡ select (cut a k e) (min p t)
      go true x i = sym (select_left a k e (min p t) (omega (arith, ltb-true p k x)))
      go false x i = i ∙ sym (select_right a k e (min p t) (omega (arith, ltb-false p k x)))

  -- what holds of each value holds of the value at a position
  pub each_select : (P : A → Type 0) (e : Pieces A) → Each P e → (p : ℕ) → P (select e p)
  each_select P (last a) h p = h
  each_select P (cut a k e) h p = go (ltb p k) (each_select P e h.1 p)
    where
      go : (b : Bool) → P (select e p) → P (cond b a (select e p))
      go true s = h.0
      go false s = s

  pub each_imp : (P Q : A → Type 0) → ((a : A) → P a → Q a) → (e : Pieces A) → Each P e → Each Q e
  each_imp P Q f (last a) h = f a h
  each_imp P Q f (cut a k e) h = (f a h.0, each_imp P Q f e h.1)

-- a position from b to t where two lists of pieces differ
pub record Differ (b t : ℕ) (e f : Pieces ℕ) : Type 0 where
  pub spot : ℕ
  pub low : b ≤ spot
  pub high : spot ≤ t
  pub apart : select e spot ≡ select f spot → ⊥

-- a value whose neighbour differs from it, at the first position of the neighbour
pub after_cut : (b t c k : ℕ) (e : Pieces ℕ) → Reduced b t (cut c k e) → (c ≡ select (cut c k e) k → ⊥)
after_cut b t c k e h q = h.2 (q ∙ select_right c k e k (omega arith) ∙ select_low k t e h.3)

pub differ : (b t : ℕ) (e f : Pieces ℕ) → Reduced b t e → Reduced b t f → (e ≡ f → ⊥) → Differ b t e f
differ b t (last c) (last d) he hf ne = record { spot = b; low = omega arith; high = he; apart = λ q. ne (ap last q) }
differ b t (last c) (cut d k f) he hf ne = go (ℕ_discrete c d)
  where
    go : Dec (c ≡ d) → Differ b t (last c) (cut d k f)
    go (no n) = record { spot = b; low = omega arith; high = he; apart = λ q. n (q ∙ select_left d k f b hf.0) }
    go (yes s) = record { spot = k; low = omega arith; high = hf.1; apart = λ q. after_cut b t d k f hf (sym s ∙ q) }
differ b t (cut c k e) (last d) he hf ne = go (ℕ_discrete c d)
  where
    go : Dec (c ≡ d) → Differ b t (cut c k e) (last d)
    go (no n) = record { spot = b; low = omega arith; high = hf; apart = λ q. n (sym (select_left c k e b he.0) ∙ q) }
    go (yes s) = record { spot = k; low = omega arith; high = he.1; apart = λ q. after_cut b t c k e he (s ∙ sym q) }
differ b t (cut c k e) (cut d l f) he hf ne = go (ℕ_discrete c d) (ℕ_discrete k l) (ltb k l) refl (λ h n. differ k t e f he.3 h n)
  where
    go : Dec (c ≡ d) → Dec (k ≡ l) → (q : Bool) → ltb k l ≡ q → (Reduced k t f → (e ≡ f → ⊥) → Differ k t e f) → Differ b t (cut c k e) (cut d l f)
    go (no n) r q s rec = record { spot = b; low = omega arith; high = omega arith; apart = λ z. n (sym (select_left c k e b he.0) ∙ z ∙ select_left d l f b hf.0) }
    go (yes x) (yes y) q s rec =
        let i = rec (rw (← y) at hf.3) (λ z. ne (cc)) in
        let h : k ≤ i.spot = i.low in
        record { spot = i.spot; low = omega arith; high = i.high; apart = λ z. i.apart (sym (select_right c k e i.spot h) ∙ z ∙ select_right d l f i.spot (omega arith)) }
    go (yes x) (no y) true s rec = record { spot = k; low = omega arith; high = he.1; apart = λ z. after_cut b t c k e he (x ∙ sym (select_left d l f k (ltb-true k l s)) ∙ sym z) }
    go (yes x) (no y) false s rec =
        let h : l < k = omega (arith, ltb-false k l s) in
        record { spot = l; low = omega arith; high = hf.1; apart = λ z. after_cut b t d l f hf (sym x ∙ sym (select_left c k e l h) ∙ z) }

-- two positions that reduced pieces, more than one, tell apart
pub record Two (t : ℕ) (e : Pieces ℕ) : Type 0 where
  pub p : ℕ
  pub q : ℕ
  pub p_top : p ≤ t
  pub q_top : q ≤ t
  pub apart : select e p ≡ select e q → ⊥

pub two_told_apart : (t : ℕ) (e : Pieces ℕ) → Reduced 0 t e → 2 ≤ count e → Two t e
two_told_apart t (last c) h n = absurd (omega arith)
two_told_apart t (cut c k e) h n = record { p = 0; q = k; p_top = omega arith; q_top = h.1; apart = λ x. after_cut 0 t c k e h (sym (select_left c k e 0 h.0) ∙ x) }
