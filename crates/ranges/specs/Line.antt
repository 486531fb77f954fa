-- The dense line: keys, places, cuts. Document 01, "Readings and conditions". Assumes nothing.
use Rattle.std.specs.Prelude.{ℕ, ◌+◌, ◌-◌, ◌^◌, ℤ, pos, negsuc, ◌+ℤ◌, ◌≤ℤ◌}

-- A whole number from one to another.
abbrev pub From◌to◌ : ℤ → ℤ → ℤ → Type 0
From◌to◌ a b z = (a ≤ℤ z) × (z ≤ℤ b)

-- "Keys are whole numbers from -2^31 to 2^31-1, read as points on a dense line."
abbrev pub Key : ℤ → Type 0
Key v = From◌to◌ (negsuc (2 ^ 31 - 1)) (pos (2 ^ 31 - 1)) v

-- "A reading is a place: 2v is exactly v, 2v+1 is strictly between v and v+1."
abbrev pub exactly : ℤ → ℤ
exactly v = v +ℤ v

-- "Places run from -2^32-1 (below all keys) to 2^32-1 (above all keys)."
abbrev pub lowest : ℤ
lowest = negsuc (2 ^ 32)

abbrev pub highest : ℤ
highest = pos (2 ^ 32 - 1)

abbrev pub Place : ℤ → Type 0
Place p = From◌to◌ lowest highest p

-- "A cut is the first place on its right: 2v cuts before v, 2v+1 cuts after v. Cuts run from -2^32 to 2^32-1."
abbrev pub Cut : ℤ → Type 0
Cut k = From◌to◌ (negsuc (2 ^ 32 - 1)) highest k

-- Places counted from the lowest: its position is the number of places below a place. 0 is the lowest place.
-- The code and the proofs count so, since they then need no negative numbers.
abbrev pub position : ℤ → ℕ
position (pos n) = n + (2 ^ 32 + 1)
position (negsuc n) = 2 ^ 32 - n

-- The position of the highest place.
abbrev pub top : ℕ
top = 2 ^ 33
