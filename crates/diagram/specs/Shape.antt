-- The shape of pieces: how many there are, what each is, that their cuts rise and that neighbours differ. Assumes nothing.
use Rattle.std.specs.Prelude.{◌≡◌, ℕ, zero, suc, ◌≤◌, ◌<◌}
use Rattle.diagram.specs.Pieces.{Pieces, last, cut}

module _ {A : Type 0} where
  abbrev pub first : Pieces A → A
  first (last a) = a
  first (cut a k e) = a

  -- how many pieces there are
  abbrev pub count : Pieces A → ℕ
  count (last a) = 1
  count (cut a k e) = suc (count e)

  -- each value has a property
  abbrev pub Each : (A → Type 0) → Pieces A → Type 0
  Each P (last a) = P a
  Each P (cut a k e) = P a × Each P e

  -- the cuts rise strictly, from above one position to at most another
  abbrev pub Rising : ℕ → ℕ → Pieces A → Type 0
  Rising b t (last a) = b ≤ t
  Rising b t (cut a k e) = (b < k) × (k ≤ t) × Rising k t e

  -- and neighbouring values differ
  abbrev pub Reduced : ℕ → ℕ → Pieces A → Type 0
  Reduced b t (last a) = b ≤ t
  Reduced b t (cut a k e) = (b < k) × (k ≤ t) × (a ≡ first e → ⊥) × Reduced k t e

-- Pieces by their numbers, from piece i on, with m cuts: `value` and `edge` say the value and the cut of each.
unfoldable pub run : {A : Type 0} → (ℕ → A) → (ℕ → ℕ) → ℕ → ℕ → Pieces A
run value edge i zero = last (value i)
run value edge i (suc m) = cut (value i) (edge i) (run value edge (suc i) m)
