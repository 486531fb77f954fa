use Prim.Native.Nat.{ℕ, ◌<◌, ◌≤◌}
use mathlib.Core.Path.{◌≡◌}
use lib.ListN.{get_or}
use lib.IntN.{pos}
use Rattle.table.proofs.words.blanks_from.Given as goal

-- `words::blanks_from` meets its contract. Assumes nothing.
abbrev pub invariant-loop-i : goal.invariant-loop-i
invariant-loop-i l = (l.all ≡ pos 0 → (k : ℕ) → l.from ≤ k → k < l.i → get_or l.cuts k (pos 0) ≡ pos 0) × (((k : ℕ) → l.from ≤ k → k < l.i → get_or l.cuts k (pos 0) ≡ pos 0) → l.all ≡ pos 0)
