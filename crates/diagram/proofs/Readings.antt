-- Document 01's readings and the assignments of positions that stand for them. Assumes nothing.
use mathlib.Core.Path.{◌≡◌, refl, fun_ext}
use mathlib.Core.Bool.{Bool, true, false, cond}
use Prim.Native.Nat.{ℕ, zero, suc, ◌≤◌, ◌<◌}
use native.Mathlib.Omega.{arith}
use lib.Dec.{ltb, eqb}
use lib.IntN.{ℤ}
use borrow.Author.Tests.{eqb-true, eqb-false, eq-eqb, ne_eqb, lt-ltb, le-ltb, ltb-true}
use Rattle.ranges.specs.Line.{Place, position, top}
use Rattle.ranges.specs.Ending.{place_at}
use Rattle.ranges.proofs.Positions.{position_top, place_place_at, position_place_at}
use Rattle.diagram.specs.Table.{first_boolean, is_range, top_of, Assignment}
use Rattle.diagram.specs.Cofactor.{upd, Within}
use Rattle.diagram.specs.Reading.{Reading, positions, SameBut, switched}

-- the tops of the two kinds of variables
pub range_top : (v : ℕ) → v < first_boolean → top_of v ≡ top
range_top v h = rw (lt-ltb v first_boolean h)

pub bool_top : (v : ℕ) → first_boolean ≤ v → top_of v ≡ 1
bool_top v h = rw (le-ltb v first_boolean h)

-- a reading gives positions within each variable's own
pub positions_within : (ρ : Reading) → Within (positions ρ)
positions_within ρ v = go (is_range v) refl
  where
    bool : (b : Bool) → cond b 0 1 ≤ 1
    bool true = omega arith
    bool false = omega arith

    go : (b : Bool) → is_range v ≡ b → cond b (position (ρ.place v)) (cond (ρ.holds v) 0 1) ≤ cond b top 1
    go true e = position_top (ρ.place v) (ρ.within v (ltb-true v first_boolean e))
    go false e = bool (ρ.holds v)

-- and each such assignment comes from a reading
pub reading : (α : Assignment) → Within α → Reading
reading α w = record { place = λ v. place_at (α v); holds = λ v. cond (is_range v) true (ltb (α v) 1); within = λ v l. place_place_at (α v) (rw (range_top v l) at (w v)) }

module _ (α : Assignment) (w : Within α) (v : ℕ) where
  pub place_reading : (reading α w).place v ≡ place_at (α v)
  unfolding reading
  place_reading = refl

  pub holds_reading : (reading α w).holds v ≡ cond (is_range v) true (ltb (α v) 1)
  unfolding reading
  holds_reading = refl

pub positions_reading : (α : Assignment) (w : Within α) → positions (reading α w) ≡ α
unfolding reading
positions_reading α w = fun_ext (λ v. go v (is_range v) (w v))
  where
    bool : (n : ℕ) → n ≤ 1 → cond (ltb n 1) 0 1 ≡ n
    bool zero h = refl
    bool (suc zero) h = refl
    bool (suc (suc n)) h = absurd (omega arith)

    go : (v : ℕ) (b : Bool) → α v ≤ cond b top 1 → cond b (position (place_at (α v))) (cond (cond b true (ltb (α v) 1)) 0 1) ≡ α v
    go v true h = position_place_at (α v) h
    go v false h = bool (α v) h

-- so what holds under every reading holds under every such assignment
pub readings_cover_assignments : (P : Assignment → Type 0) → ((ρ : Reading) → P (positions ρ)) → (α : Assignment) → Within α → P α
readings_cover_assignments P h α w = rw (positions_reading α w) at (h (reading α w))

-- the same reading with a range variable at another place
abbrev pub at_place : Reading → ℕ → (p : ℤ) → Place p → Reading
at_place ρ v p ok = record { place = λ w. cond (eqb w v) p (ρ.place w); holds = ρ.holds; within = λ w l. placed (eqb w v) w l }
  where
    placed : (b : Bool) (w : ℕ) → w < first_boolean → Place (cond b p (ρ.place w))
    placed true w l = ok
    placed false w l = ρ.within w l

module _ (ρ : Reading) (v : ℕ) (p : ℤ) (ok : Place p) where
  pub place_at_place : (at_place ρ v p ok).place v ≡ p
  place_at_place = rw (eq-eqb v v refl)

  pub same_but_at_place : SameBut v ρ (at_place ρ v p ok)
  same_but_at_place = (λ w n. rw (ne_eqb w v n), λ w. refl)

-- a changed reading is a changed assignment
pub positions_same_but : (ρ σ : Reading) (v : ℕ) → v < first_boolean → SameBut v ρ σ → positions σ ≡ upd (positions ρ) v (position (σ.place v))
positions_same_but ρ σ v h x = fun_ext (λ w. go w (eqb w v) refl)
  where
    go : (w : ℕ) (b : Bool) → eqb w v ≡ b → positions σ w ≡ cond b (position (σ.place v)) (positions ρ w)
    go w true e = let q : w ≡ v = eqb-true w v e in rw (q, lt-ltb v first_boolean h)
    go w false e = rw (x.0 w (eqb-false w v e), x.1 w)

pub positions_switched : (ρ : Reading) (v : ℕ) (b : Bool) → first_boolean ≤ v → positions (switched ρ v b) ≡ upd (positions ρ) v (cond b 0 1)
positions_switched ρ v b h = fun_ext (λ w. go w (eqb w v) refl)
  where
    go : (w : ℕ) (x : Bool) → eqb w v ≡ x → cond (is_range w) (position (ρ.place w)) (cond (cond x b (ρ.holds w)) 0 1) ≡ cond x (cond b 0 1) (positions ρ w)
    go w true e = let q : first_boolean ≤ w = omega (arith, eqb-true w v e) in rw (le-ltb w first_boolean q)
    go w false e = refl
