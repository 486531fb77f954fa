use Prim.Native.Nat.{◌≤◌}
use mathlib.Core.Path.{◌≡◌}
use Rattle.chains.specs.Local.{tally}
use Rattle.chains.specs.Row.{words}
use Rattle.table.proofs.sound.full_words.Given as goal

-- `sound::full_words` meets its contract. Assumes nothing.
abbrev pub invariant-loop-i : goal.invariant-loop-i
invariant-loop-i l = (l.full ≤ l.i) × (l.full ≡ tally (words l.index) l.i)
