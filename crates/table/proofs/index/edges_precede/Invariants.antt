use Prim.Native.Nat.{◌-◌}
use mathlib.Core.Path.{◌≡◌}
use Rattle.chains.specs.Lexical.{less}
use Rattle.table.specs.Checking.{run_at}
use Rattle.table.proofs.index.edges_precede.Given as goal

-- `index::edges_precede` meets its contract. Assumes nothing.
abbrev pub invariant-loop-i : goal.invariant-loop-i
invariant-loop-i l = less (run_at l.children l.cuts l.a 0 l.count) (run_at l.children l.cuts l.b 0 l.count) ≡ less (run_at l.children l.cuts l.a l.i (l.count - l.i)) (run_at l.children l.cuts l.b l.i (l.count - l.i))
