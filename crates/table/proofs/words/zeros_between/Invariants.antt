use Prim.Native.Nat.{ℕ, ◌<◌, ◌≤◌}
use mathlib.Core.Path.{◌≡◌}
use lib.ListN.{get_or}
use Rattle.table.proofs.words.zeros_between.Given as goal

-- `words::zeros_between` meets its contract. Assumes nothing.
abbrev pub invariant-loop-i : goal.invariant-loop-i
invariant-loop-i l = (l.all ≡ 0 → (k : ℕ) → l.from ≤ k → k < l.i → get_or l.words k 0 ≡ 0) × (((k : ℕ) → l.from ≤ k → k < l.i → get_or l.words k 0 ≡ 0) → l.all ≡ 0)
