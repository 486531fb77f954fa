use Prim.Native.Nat.{ℕ, ◌<◌, ◌+◌, ◌-◌}
use mathlib.Core.Path.{◌≡◌}
use Rattle.table.specs.Layout.{kid_at}
use Rattle.table.specs.Lent.{Stands}
use Rattle.table.proofs.rules.kids_stand.Given as goal

-- `rules::kids_stand` meets its contract. Assumes nothing.
abbrev pub invariant-loop-j : goal.invariant-loop-j
invariant-loop-j l = (l.last ≡ kid_at l.children (l.e + (l.j - 1))) × ((k : ℕ) → k < l.j → Stands l.nodes l.n l.v (kid_at l.children (l.e + k))) × ((k : ℕ) → k + 1 < l.j → kid_at l.children (l.e + (k + 1)) ≡ kid_at l.children (l.e + k) → ⊥)
