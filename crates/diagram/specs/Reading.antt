-- Readings, and what an id says under one. Document 01, "Readings and conditions" and step 10. Assumes nothing.
use Rattle.std.specs.Prelude.{◌≡◌, Bool, true, cond, ℕ, ◌<◌, eqb, ℤ}
use Rattle.ranges.specs.Line.{Place, position}
use Rattle.diagram.specs.Table.{first_boolean, is_range, Table, Assignment, value}

-- "32 places and 32 booleans": a place for each range variable and a yes or no for each boolean one, by the variable's number.
pub record Reading : Type 0 where
  pub place : ℕ → ℤ
  pub holds : ℕ → Bool
  -- "Places run from -2^32-1 to 2^32-1"
  pub within : (v : ℕ) → v < first_boolean → Place (place v)

-- The positions that a reading gives.
abbrev pub positions : Reading → Assignment
positions ρ v = cond (is_range v) (position (ρ.place v)) (cond (ρ.holds v) 0 1)

-- What an id says under a reading.
abbrev pub says : Table → Reading → ℕ → Bool
says t ρ id = value t (positions ρ) id

-- One place for every range variable, and yes for every boolean one.
abbrev pub everywhere : (p : ℤ) → Place p → Reading
everywhere p h = record { place = λ v. p; holds = λ v. true; within = λ v l. h }

-- Two readings that differ in the place of a range variable alone.
abbrev pub SameBut : ℕ → Reading → Reading → Type 0
SameBut v ρ σ = ((w : ℕ) → (w ≡ v → ⊥) → σ.place w ≡ ρ.place w) × ((w : ℕ) → σ.holds w ≡ ρ.holds w)

-- The same reading with a boolean variable at another value.
abbrev pub switched : Reading → ℕ → Bool → Reading
switched ρ v b = record { place = ρ.place; holds = λ w. cond (eqb w v) b (ρ.holds w); within = ρ.within }
