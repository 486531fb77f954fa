-- The nearest place inside bounds that are not empty: it is inside, and no place inside is nearer. Assumes nothing.
use mathlib.Core.Path.{◌≡◌, refl, sym, ◌∙◌}
use mathlib.Core.Bool.{Bool, true, false, cond, and-eq-true_iff, false≢true}
use mathlib.Core.Logic.{◌↔◌}
use Prim.Native.Nat.{ℕ, ◌≤◌, min, max}
use native.Mathlib.Omega.{arith}
use lib.Dec.{leb, ltb}
use lib.IntN.{ℤ}
use lib.Signed.{lt_z}
use borrow.Author.Tests.{ltb-true, ltb-false, leb-true, le-leb, lt-leb}
use Rattle.ranges.specs.Line.{Place, position}
use Rattle.ranges.specs.Bounding.{Keyed, inside, Empty, distance, Nearest}
use Rattle.ranges.specs.Ending.{first_place, last_place, empty}
use Rattle.ranges.specs.declared.bounds.Bound.{Bound}
use Rattle.ranges.proofs.Positions.{position_lt_z, place_first, place_last, inside_positions, empty_positions}

-- The place inside the bounds that is nearest to a place, where they are not empty.
abbrev pub nearest : Bound → Bound → ℤ → ℤ
nearest lower upper p = cond (lt_z p (first_place lower)) (first_place lower) (cond (lt_z (last_place upper) p) (last_place upper) p)

module _ (lower upper : Bound) (kl : Keyed lower) (ku : Keyed upper) where
  abbrev lo : ℕ
  lo = position (first_place lower)

  abbrev hi : ℕ
  hi = position (last_place upper)

  pub first_place_le_last : empty lower upper ≡ false → position (first_place lower) ≤ position (last_place upper)
  first_place_le_last e = ltb-false hi lo (sym (empty_positions lower upper kl ku) ∙ e)

  pub place_nearest : (p : ℤ) → Place p → Place (nearest lower upper p)
  place_nearest p h = go (lt_z p (first_place lower)) (lt_z (last_place upper) p)
    where
      go : (a b : Bool) → Place (cond a (first_place lower) (cond b (last_place upper) p))
      go true b = place_first lower kl
      go false true = place_last upper ku
      go false false = h

  pub position_nearest : empty lower upper ≡ false → (p : ℤ) → Place p → position (nearest lower upper p) ≡ max (position (first_place lower)) (min (position p) (position (last_place upper)))
  position_nearest e p h = go (lt_z p (first_place lower)) (lt_z (last_place upper) p) (sym (position_lt_z p (first_place lower) h (place_first lower kl))) (sym (position_lt_z (last_place upper) p (place_last upper ku) h))
    where
      go : (a b : Bool) → ltb (position p) lo ≡ a → ltb hi (position p) ≡ b → position (cond a (first_place lower) (cond b (last_place upper) p)) ≡ max lo (min (position p) hi)
      go true b x y = omega (arith, ltb-true (position p) lo x, first_place_le_last e)
      go false true x y = omega (arith, ltb-true hi (position p) y, first_place_le_last e)
      go false false x y = omega (arith, ltb-false (position p) lo x, ltb-false hi (position p) y)

  -- it is inside
  pub nearest_inside : empty lower upper ≡ false → (p : ℤ) → Place p → inside lower upper (nearest lower upper p) ≡ true
  nearest_inside e p h =
      let q = position_nearest e p h in
      inside_positions lower upper kl ku (nearest lower upper p) (place_nearest p h)
      ∙ rw (le-leb lo (position (nearest lower upper p)) (omega arith), le-leb (position (nearest lower upper p)) hi (omega (arith, first_place_le_last e)))

  -- and no place inside is nearer
  pub nearest_least : empty lower upper ≡ false → (p : ℤ) → Place p → (q : ℤ) → Place q → inside lower upper q ≡ true → distance p (nearest lower upper p) ≤ distance p q
  nearest_least e p h q hq i =
      let x = (and-eq-true_iff (leb lo (position q)) (leb (position q) hi)).0 (sym (inside_positions lower upper kl ku q hq) ∙ i) in
      omega (arith, position_nearest e p h, leb-true lo (position q) x.0, leb-true (position q) hi x.1)

  pub nearest_is : empty lower upper ≡ false → (p : ℤ) → Place p → Nearest lower upper p (nearest lower upper p)
  nearest_is e p h = record { within = nearest_inside e p h; least = nearest_least e p h }

  -- there is no other such place
  pub position_of_nearest : empty lower upper ≡ false → (p q : ℤ) → Place p → Place q → Nearest lower upper p q → position q ≡ max (position (first_place lower)) (min (position p) (position (last_place upper)))
  position_of_nearest e p q h hq n =
      let x = (and-eq-true_iff (leb lo (position q)) (leb (position q) hi)).0 (sym (inside_positions lower upper kl ku q hq) ∙ n.within) in
      omega (arith, position_nearest e p h, leb-true lo (position q) x.0, leb-true (position q) hi x.1, n.least (nearest lower upper p) (place_nearest p h) (nearest_inside e p h))

  -- "A range is empty when its first place is above its last": exactly when no place is inside
  pub empty_exactly : (empty lower upper ≡ true) ↔ Empty lower upper
  empty_exactly = (λ e p h. outside e p h (leb lo (position p)) refl, λ f. go (empty lower upper) refl f)
    where
      outside : empty lower upper ≡ true → (p : ℤ) → Place p → (b : Bool) → leb lo (position p) ≡ b → inside lower upper p ≡ false
      outside e p h true x = inside_positions lower upper kl ku p h ∙ rw (x, lt-leb (position p) hi (omega (arith, leb-true lo (position p) x, ltb-true hi lo (sym (empty_positions lower upper kl ku) ∙ e))))
      outside e p h false x = inside_positions lower upper kl ku p h ∙ rw x

      first_inside : empty lower upper ≡ false → inside lower upper (first_place lower) ≡ true
      first_inside e = inside_positions lower upper kl ku (first_place lower) (place_first lower kl) ∙ rw (le-leb lo lo (omega arith), le-leb lo hi (first_place_le_last e))

      go : (b : Bool) → empty lower upper ≡ b → Empty lower upper → b ≡ true
      go true e f = refl
      go false e f = absurd (false≢true (sym (f (first_place lower) (place_first lower kl)) ∙ first_inside e))
