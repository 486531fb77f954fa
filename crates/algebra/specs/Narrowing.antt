-- What narrowing has to say. Document 01, step 8; with empty bounds, as it is before K3. Assumes nothing.
use Rattle.std.specs.Prelude.{◌≡◌, Bool, false, ℕ, ◌<◌}
use Rattle.ranges.specs.Bounding.{Nearest}
use Rattle.ranges.specs.declared.bounds.Bound.{Bound}
use Rattle.diagram.specs.Table.{Table}
use Rattle.diagram.specs.Reading.{Reading, says, SameBut}

-- The same reading with the range variable v at "the nearest place inside the bounds".
abbrev pub AtNearest : ℕ → Bound → Bound → Reading → Reading → Type 0
AtNearest v lower upper ρ σ = SameBut v ρ σ × Nearest lower upper (ρ.place v) (σ.place v)

-- "The earlier variables being fixed": a reading with another's place for every variable before the range variable v.
abbrev pub SameBefore : ℕ → Reading → Reading → Type 0
SameBefore v ρ σ = (w : ℕ) → w < v → σ.place w ≡ ρ.place w

-- The old answer does not change with v there: the id says the same under any two readings that differ in v alone, with the earlier
-- variables as in ρ.
abbrev pub Steady : Table → ℕ → Reading → ℕ → Type 0
Steady t v ρ id = (σ τ : Reading) → SameBefore v ρ σ → SameBut v σ τ → says t σ id ≡ says t τ id

-- "FALSE wherever, the earlier variables being fixed, the old answer still changes with the chosen one; elsewhere the old answer."
abbrev pub EmptyAnswer : Table → ℕ → ℕ → (Reading → Bool) → Type 0
EmptyAnswer t v id m = (ρ : Reading) → ((Steady t v ρ id → ⊥) → m ρ ≡ false) × (Steady t v ρ id → m ρ ≡ says t ρ id)
