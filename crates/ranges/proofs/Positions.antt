-- Places and their positions: the order, the way back, the ends of a range and the six comparisons. Assumes nothing.
use mathlib.Core.Path.{◌≡◌, refl, sym, ap, ◌∙◌}
use mathlib.Core.Bool.{Bool, true, false, not, cond, ◌&&◌}
use Prim.Native.Nat.{ℕ, zero, suc, ◌+◌, ◌-◌, ◌≤◌, ◌<◌, ◌^◌}
use mathlib.Core.Logic.{◌↔◌}
use native.Mathlib.Omega.{arith}
use lib.Dec.{leb, ltb, leb→le, le→leb, leb-zero}
use lib.IntN.{ℤ, pos, negsuc, ◌+ℤ◌, ◌-ℤ◌, suc_ℤ, pred_ℤ, +ℤ_one, -ℤ_one}
use lib.Signed.{le_z, lt_z, le_z_yes}
use borrow.Author.Tests.{leb-true, leb-false, le-leb, lt-leb, lt-ltb, le-ltb}
use Rattle.ranges.specs.Line.{Key, Place, Cut, exactly, position, top}
use Rattle.ranges.specs.Bounding.{Keyed, above, below, inside}
use Rattle.ranges.specs.Comparing.{compares}
use Rattle.ranges.specs.Ending.{place_at, first_place, last_place, empty, lower_of, upper_of, outside_of}
use Rattle.ranges.specs.declared.bounds.Bound.{Bound}
use Rattle.ranges.specs.declared.bounds.Bound.TheVariants.{Open, Includes, Excludes}
use Rattle.ranges.specs.declared.bounds.Comparison.{Comparison}
use Rattle.ranges.specs.declared.bounds.Comparison.TheVariants.{Equal, NotEqual, LessThan, LessEqual, GreaterThan, GreaterEqual}

-- Two tests that go together; for ltb, the first of each pair is a suc.
pub same_leb : (a b c d : ℕ) → (a ≤ b → c ≤ d) × (b < a → d < c) → leb a b ≡ leb c d
same_leb a b c d h = go (leb a b) refl
  where
    go : (t : Bool) → leb a b ≡ t → t ≡ leb c d
    go true e = sym (le-leb c d (h.0 (leb-true a b e)))
    go false e = sym (lt-leb c d (h.1 (leb-false a b e)))

-- What it is to be a place, by the sign.
pub place_pos : (n : ℕ) → Place (pos n) → n < 2 ^ 32
place_pos n h = omega (arith, leb→le)

pub place_neg : (n : ℕ) → Place (negsuc n) → n ≤ 2 ^ 32
place_neg n h = omega (arith, leb→le)

pub position_top : (p : ℤ) → Place p → position p ≤ top
position_top (pos n) h = omega (arith, place_pos n h)
position_top (negsuc n) h = omega arith

pub position_le_z : (a b : ℤ) → Place a → Place b → le_z a b ≡ leb (position a) (position b)
position_le_z (pos a) (pos b) ha hb = same_leb a b (position (pos a)) (position (pos b)) (omega arith)
position_le_z (pos a) (negsuc b) ha hb = sym (lt-leb (position (pos a)) (position (negsuc b)) (omega arith))
position_le_z (negsuc a) (pos b) ha hb = sym (le-leb (position (negsuc a)) (position (pos b)) (omega arith))
position_le_z (negsuc a) (negsuc b) ha hb = same_leb b a (position (negsuc a)) (position (negsuc b)) (omega (arith, place_neg a ha, place_neg b hb))

pub position_lt_z : (a b : ℤ) → Place a → Place b → lt_z a b ≡ ltb (position a) (position b)
position_lt_z (pos a) (pos b) ha hb = same_leb (suc a) b (suc (position (pos a))) (position (pos b)) (omega arith)
position_lt_z (pos a) (negsuc b) ha hb = sym (le-ltb (position (pos a)) (position (negsuc b)) (omega arith))
position_lt_z (negsuc a) (pos b) ha hb = sym (lt-ltb (position (negsuc a)) (position (pos b)) (omega arith))
position_lt_z (negsuc a) (negsuc b) ha hb = same_leb (suc b) a (suc (position (negsuc a))) (position (negsuc b)) (omega (arith, place_neg a ha, place_neg b hb))

-- The place at a position is below zero, or not.
place_at_ind : (P : ℤ → Type 0) (q : ℕ) → (q ≤ 2 ^ 32 → P (negsuc (2 ^ 32 - q))) → (2 ^ 32 < q → P (pos (q - (2 ^ 32 + 1)))) → P (place_at q)
place_at_ind P q f g = go (ltb q (2 ^ 32 + 1)) refl
  where
    go : (t : Bool) → ltb q (2 ^ 32 + 1) ≡ t → P (cond t (negsuc (2 ^ 32 + 1 - suc q)) (pos (q - (2 ^ 32 + 1))))
    go true e = let h = leb-true (suc q) (2 ^ 32 + 1) e in let d : 2 ^ 32 + 1 - suc q ≡ 2 ^ 32 - q = omega arith in rw d (f (omega arith))
    go false e = let h = leb-false (suc q) (2 ^ 32 + 1) e in g (omega arith)

pub place_place_at : (q : ℕ) → q ≤ top → Place (place_at q)
place_place_at q h = place_at_ind Place q (λ l. omega (arith, le→leb)) (λ l. omega (arith, le→leb))

pub position_place_at : (q : ℕ) → q ≤ top → position (place_at q) ≡ q
position_place_at q h = place_at_ind (λ p. position p ≡ q) q (λ l. omega arith) (λ l. omega arith)

pub place_at_position : (p : ℤ) → Place p → place_at (position p) ≡ p
place_at_position (pos n) h = place_at_ind (λ p. p ≡ pos n) (position (pos n)) (λ l. absurd (omega arith)) (λ l. ap pos (omega arith))
place_at_position (negsuc n) h = place_at_ind (λ p. p ≡ negsuc n) (position (negsuc n)) (λ l. ap negsuc (omega (arith, place_neg n h))) (λ l. absurd (omega arith))

-- The next place and the one before.
pub position_next : (p : ℤ) → Place p → position (p +ℤ pos 1) ≡ suc (position p)
position_next p h = rw +ℤ_one (go p h)
  where
    go : (p : ℤ) → Place p → position (suc_ℤ p) ≡ suc (position p)
    go (pos n) h = omega arith
    go (negsuc zero) h = refl
    go (negsuc (suc n)) h = omega (arith, place_neg (suc n) h)

pub position_before : (p : ℤ) → position (p -ℤ pos 1) ≡ position p - 1
position_before p = rw -ℤ_one (go p)
  where
    go : (p : ℤ) → position (pred_ℤ p) ≡ position p - 1
    go (pos zero) = refl
    go (pos (suc n)) = omega arith
    go (negsuc n) = omega arith

pub place_exactly : (v : ℤ) → Key v → Place (exactly v)
place_exactly (pos n) h = omega (arith, leb→le, le→leb)
place_exactly (negsuc n) h = omega (arith, leb→le, le→leb)

-- A key has a place on each side.
pub exactly_between : (v : ℤ) → Key v → (0 < position (exactly v)) × (position (exactly v) < top)
exactly_between (pos n) h = omega (arith, leb→le)
exactly_between (negsuc n) h = omega (arith, leb→le)

place_next : (p : ℤ) → Place p → position p < top → Place (p +ℤ pos 1)
place_next p h l = rw +ℤ_one (go p h l)
  where
    go : (p : ℤ) → Place p → position p < top → Place (suc_ℤ p)
    go (pos n) h l = omega (arith, le→leb)
    go (negsuc zero) h l = omega (arith, le→leb)
    go (negsuc (suc n)) h l = omega (arith, leb→le, le→leb)

place_before : (p : ℤ) → Place p → 0 < position p → Place (p -ℤ pos 1)
place_before p h l = rw -ℤ_one (go p h l)
  where
    go : (p : ℤ) → Place p → 0 < position p → Place (pred_ℤ p)
    go (pos zero) h l = omega (arith, le→leb)
    go (pos (suc n)) h l = omega (arith, leb→le, le→leb)
    go (negsuc n) h l = omega (arith, le→leb)

pub place_first : (b : Bound) → Keyed b → Place (first_place b)
place_first Open h = omega arith
place_first (Includes v) h = place_exactly v h
place_first (Excludes v) h = place_next (exactly v) (place_exactly v h) (exactly_between v h).1

pub place_last : (b : Bound) → Keyed b → Place (last_place b)
place_last Open h = omega arith
place_last (Includes v) h = place_exactly v h
place_last (Excludes v) h = place_before (exactly v) (place_exactly v h) (exactly_between v h).0

above_positions : (b : Bound) → Keyed b → (p : ℤ) → Place p → above b p ≡ leb (position (first_place b)) (position p)
above_positions Open h p l = sym (leb-zero (position p))
above_positions (Includes v) h p l = position_le_z (exactly v) p (place_exactly v h) l
above_positions (Excludes v) h p l = let e = place_exactly v h in position_lt_z (exactly v) p e l ∙ ap (λ (q : ℕ). leb q (position p)) (sym (position_next (exactly v) e))

below_positions : (b : Bound) → Keyed b → (p : ℤ) → Place p → below b p ≡ leb (position p) (position (last_place b))
below_positions Open h p l = sym (le-leb (position p) top (position_top p l))
below_positions (Includes v) h p l = position_le_z p (exactly v) l (place_exactly v h)
below_positions (Excludes v) h p l =
    let k = exactly_between v h in
    position_lt_z p (exactly v) l (place_exactly v h) ∙ same_leb (suc (position p)) (position (exactly v)) (position p) (position (last_place (Excludes v))) (omega (arith, position_before (exactly v)))

pub inside_positions : (lower upper : Bound) → Keyed lower → Keyed upper → (p : ℤ) → Place p → inside lower upper p ≡ (leb (position (first_place lower)) (position p) && leb (position p) (position (last_place upper)))
inside_positions lower upper kl ku p h = rw (above_positions lower kl p h, below_positions upper ku p h)

pub empty_positions : (lower upper : Bound) → Keyed lower → Keyed upper → empty lower upper ≡ ltb (position (last_place upper)) (position (first_place lower))
empty_positions lower upper kl ku = position_lt_z (last_place upper) (first_place lower) (place_last upper ku) (place_first lower kl)

and_true : (t : Bool) → t ≡ t && true
and_true true = refl
and_true false = refl

pub compares_bounds : (op : Comparison) (key p : ℤ) → compares op key p ≡ cond (outside_of op) (not (inside (lower_of op key) (upper_of op key) p)) (inside (lower_of op key) (upper_of op key) p)
compares_bounds Equal key p = refl
compares_bounds NotEqual key p = refl
compares_bounds LessThan key p = refl
compares_bounds LessEqual key p = refl
compares_bounds GreaterThan key p = and_true (lt_z (exactly key) p)
compares_bounds GreaterEqual key p = and_true (le_z (exactly key) p)

pub keyed_lower : (op : Comparison) (key : ℤ) → Key key → Keyed (lower_of op key)
keyed_lower Equal key h = h
keyed_lower NotEqual key h = h
keyed_lower LessThan key h = tt
keyed_lower LessEqual key h = tt
keyed_lower GreaterThan key h = h
keyed_lower GreaterEqual key h = h

pub keyed_upper : (op : Comparison) (key : ℤ) → Key key → Keyed (upper_of op key)
keyed_upper Equal key h = h
keyed_upper NotEqual key h = h
keyed_upper LessThan key h = h
keyed_upper LessEqual key h = h
keyed_upper GreaterThan key h = tt
keyed_upper GreaterEqual key h = tt

-- The cuts are the places above the lowest.
pub cut_above_lem : (k : ℤ) → Place k → Cut k ↔ (0 < position k)
cut_above_lem (pos n) h = (λ c. omega arith, λ l. (le_z_yes tt, h.1))
cut_above_lem (negsuc n) h = (λ c. omega (arith, leb→le), λ l. (record { le = le→leb n (2 ^ 32 - 1) (omega arith) }, h.1))
