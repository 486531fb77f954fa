-- What the numbers of the calls for C mean, where the kernel has a bound or a boolean. Every number means something. Assumes nothing.
use Rattle.std.specs.Prelude.{◌≡◌, Bool, true, false, not, ℕ, zero, suc, eqb, ℤ}
use Rattle.ranges.specs.declared.bounds.Bound.{Bound}
use Rattle.ranges.specs.declared.bounds.Bound.TheVariants.{Open, Includes, Excludes}

-- A bound by its kind and its key: 0 is open, whatever the key; 1 includes the key; every other number excludes it.
abbrev pub bound_of : ℕ → ℤ → Bound
bound_of zero key = Open
bound_of (suc zero) key = Includes key
bound_of (suc (suc k)) key = Excludes key

-- The value that a boolean is restricted to: 0 is no, and every other number is yes.
abbrev pub is_yes : ℕ → Bool
is_yes value = not (eqb value 0)

-- The word that is written for an answer.
abbrev pub word_of : Bool → ℕ
word_of true = 1
word_of false = 0

-- What a yes-or-no call tells by the number that it returns and the word that it writes: `tells` says which answer stands beside which
-- number, and the word is that of an answer beside this number. There is but one (`proofs/Once`), so the word is decided.
pub record Telling (tells : ℕ → Bool → Type 0) (number word : ℕ) : Type 0 where
  pub yes : Bool
  pub told : tells number yes
  pub written : word ≡ word_of yes
