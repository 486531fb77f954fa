-- Keys, places and positions as the machine's numbers. Assumes nothing.
use mathlib.Core.Path.{◌≡◌, sym, ap, ◌∙◌}
use Prim.Native.Nat.{ℕ, ◌+◌, ◌≤◌, ◌<◌, ◌^◌}
use native.Mathlib.Omega.{arith}
use lib.Dec.{T, leb→le, le→leb}
use lib.IntN.{ℤ, pos, negsuc, ◌+ℤ◌, ◌-ℤ◌, -ℤ-+ℤ_cancel, nat_abs}
use lib.Signed.{mag, non_neg}
use mir.Syntax.{w32, w64}
use mir.Val.{to_z, of_z, Fits, SFits}
use mir.ValLaws.{to_z-of_z, to_z_pos}
use Rattle.ranges.specs.Line.{Key, Place, exactly, position, top}
use Rattle.ranges.specs.Ending.{place_at}
use Rattle.ranges.proofs.Positions.{position_top, place_at_position, place_place_at, place_exactly}

pub key_fits : (v : ℤ) → mag v < 2 ^ 31 → Key v
key_fits (pos n) h = omega (arith, le→leb)
key_fits (negsuc n) h = omega (arith, le→leb)

key_mag : (v : ℤ) → Key v → mag v < 2 ^ 31
key_mag (pos n) h = omega (arith, leb→le)
key_mag (negsuc n) h = omega (arith, leb→le)

pub key_back : (v : ℤ) → Key v → to_z w32 (of_z w32 v) ≡ v
key_back v h = to_z-of_z w32 v (record { sfits = key_mag v h })

place_fits : (p : ℤ) → Place p → SFits w64 p
place_fits (pos n) h = omega (arith, leb→le)
place_fits (negsuc n) h = omega (arith, leb→le)

-- A signed number that is a place's position.
pub record Raised (z p : ℤ) : Type 0 where
  place : Place p
  is : z ≡ pos (position p)

module _ {z p : ℤ} (r : Raised z p) where
  pub raised_fits : SFits w64 z
  raised_fits = rw r.is (record { sfits = omega (arith, position_top p r.place) })

  back : to_z w64 (of_z w64 z) ≡ pos (position p)
  back = to_z-of_z w64 z raised_fits ∙ r.is

  pub raised_cast : T (non_neg (to_z w64 (of_z w64 z))) × Fits w64 (nat_abs (to_z w64 (of_z w64 z)))
  raised_cast = rw back (tt, record { fits = omega (arith, position_top p r.place) })

  pub raised_value : nat_abs (to_z w64 (of_z w64 z)) ≡ position p
  raised_value = ap nat_abs back

-- A place, raised to its position.
pub raised : (p : ℤ) → Place p → Raised (to_z w64 (of_z w64 p) +ℤ pos (2 ^ 32 + 1)) p
raised p h = record {
  place = h;
  is = ap (λ (z : ℤ). z +ℤ pos (2 ^ 32 + 1)) (to_z-of_z w64 p (place_fits p h) ∙ sym (place_at_position p h)) ∙ -ℤ-+ℤ_cancel (pos (position p)) (pos (2 ^ 32 + 1));
}

-- A key, cast to 64 bits, doubled, and raised.
module _ (v : ℤ) (h : Key v) where
  abbrev wide : ℤ
  wide = to_z w64 (of_z w64 (to_z w32 (of_z w32 v)))

  pub wide_fits : SFits w64 (to_z w32 (of_z w32 v))
  wide_fits = rw (key_back v h) (record { sfits = omega (arith, key_mag v h) })

  wide_back : wide ≡ v
  wide_back = to_z-of_z w64 (to_z w32 (of_z w32 v)) wide_fits ∙ key_back v h

  pub twice_fits : SFits w64 (wide +ℤ wide)
  twice_fits = rw wide_back (place_fits (exactly v) (place_exactly v h))

  pub twice_raised : Raised (to_z w64 (of_z w64 (wide +ℤ wide)) +ℤ pos (2 ^ 32 + 1)) (exactly v)
  twice_raised = rw wide_back (raised (exactly v) (place_exactly v h))

-- A position, lowered to its place.
module _ (q : ℕ) (h : q ≤ top) where
  lowered : to_z w64 q -ℤ pos (2 ^ 32 + 1) ≡ place_at q
  lowered = ap (λ (z : ℤ). z -ℤ pos (2 ^ 32 + 1)) (to_z_pos w64 q (omega arith))

  pub lowered_fits : SFits w64 (to_z w64 q -ℤ pos (2 ^ 32 + 1))
  lowered_fits = rw lowered (place_fits (place_at q) (place_place_at q h))

  pub lowered_value : to_z w64 (of_z w64 (to_z w64 q -ℤ pos (2 ^ 32 + 1))) ≡ place_at q
  lowered_value = to_z-of_z w64 (to_z w64 q -ℤ pos (2 ^ 32 + 1)) lowered_fits ∙ lowered
