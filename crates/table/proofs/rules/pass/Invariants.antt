use Prim.Native.Nat.{ℕ, ◌<◌, ◌+◌}
use mathlib.Core.Path.{◌≡◌}
use Rattle.table.specs.Layout.{kid_at, cut_at, cut_position}
use Rattle.table.specs.Indexed.{hash_to}
use Rattle.table.specs.Lent.{Stands}
use Rattle.table.specs.Checking.{below}
use Rattle.table.proofs.rules.pass.Given as goal

-- `rules::pass` meets its contract. Assumes nothing.
abbrev pub invariant-loop-j : goal.invariant-loop-j
invariant-loop-j l = (l.last ≡ kid_at l.table.children.now (l.e + l.j)) × (l.last < 4294967296) × (l.low ≡ below l.table.cuts.now l.e l.j) × (l.h ≡ hash_to l.table.children.now l.table.cuts.now l.v l.e l.j) × (l.h < 4294967296) × ((k : ℕ) → k < l.j → below l.table.cuts.now l.e k < cut_position (cut_at l.table.cuts.now (l.e + k))) × ((k : ℕ) → k < l.j + 1 → Stands l.table.nodes.now l.n l.v (kid_at l.table.children.now (l.e + k))) × ((k : ℕ) → k < l.j → kid_at l.table.children.now (l.e + (k + 1)) ≡ kid_at l.table.children.now (l.e + k) → ⊥)
