use Prim.Native.Nat.{◌<◌}
use mathlib.Core.Path.{◌≡◌}
use Rattle.table.specs.Indexed.{hash_to}
use Rattle.table.proofs.index.hash_of.Given as goal

-- `index::hash_of` meets its contract. Assumes nothing.
abbrev pub invariant-loop-j : goal.invariant-loop-j
invariant-loop-j l = (l.h < 4294967296) × (l.h ≡ hash_to l.children l.cuts l.v l.e l.j)
