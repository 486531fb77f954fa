-- Laws of ids: what flipping the complement bit keeps and changes. Assumes nothing.
use mathlib.Core.Path.{◌≡◌, refl}
use Prim.Native.Nat.{ℕ, zero, suc, ◌+◌, ◌-◌}
use native.Mathlib.Omega.{arith}
use Rattle.ids.specs.Id.{id_of, sign, ref, flip, under}

pub ref_flip : (id : ℕ) → ref (flip id) ≡ ref id
ref_flip id = omega arith

pub sign_flip : (id : ℕ) → sign (flip id) ≡ 1 - sign id
sign_flip id = omega arith

pub under_inj : (s x y : ℕ) → under s x ≡ under s y → x ≡ y
under_inj zero x y e = e
under_inj (suc s) x y e = omega arith

pub ref_under : (s child : ℕ) → ref (under s child) ≡ ref child
ref_under zero child = refl
ref_under (suc s) child = omega arith

-- under its own sign an id is plain
pub sign_under : (id s : ℕ) → sign id ≡ s → sign (under s id) ≡ 0
sign_under id zero h = h
sign_under id (suc s) h = omega arith

-- the two cases of a sign
pub under_even : (parent child : ℕ) → sign parent ≡ 0 → under (sign parent) child ≡ child
under_even parent child h = rw h

pub under_odd : (parent child : ℕ) → (sign parent ≡ 0 → ⊥) → under (sign parent) child ≡ flip child
under_odd parent child h = let e : sign parent ≡ suc 0 = omega arith in rw e

-- the id of a node with its complement bit set
pub flip_id_of : (n : ℕ) → flip (id_of n) ≡ id_of n + 1
flip_id_of n = omega arith
