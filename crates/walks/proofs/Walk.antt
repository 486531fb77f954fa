-- An operation that walks down pairs of children. Assumes nothing.
use mathlib.Core.Bool.{Bool}
use Prim.Native.Nat.{ℕ, suc, ◌+◌, ◌<◌}
use Rattle.diagram.specs.Table.{variables, Table, Assignment, Continues}
use Rattle.diagram.specs.Sound.{Child, Sound}
use Rattle.algebra.proofs.Made.{Made}
use Rattle.walks.specs.Walking.{Note}
use Rattle.walks.proofs.Composing.{Grows}

-- What is done on the children of a node of variable v, with n more than the variables ahead of them; what its memo notes; and what it
-- makes of a pair, in every table that continues one in which they are known.
pub record Walk (v n : ℕ) : Type 1 where
  pub note : Note
  pub grows : Grows note
  pub f : Table → ℕ × ℕ → Table × ℕ
  pub m : Table → ℕ × ℕ → Assignment → Bool
  pub made : variables < suc v + n → (t : Table) → Sound t → (s : Table) → Sound s → Continues t s → (p : ℕ × ℕ) → Child t (suc v) p.0 × Child t (suc v) p.1 → Made s (suc v) (m t p) (f s p)
