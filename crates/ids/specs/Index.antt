-- The range test for an id, as the code answers it. Document 01, step 1. Assumes nothing.
use Rattle.std.specs.Prelude.{Bool, true, false, ℕ, ◌-◌, leb, eqb}
use Rattle.ids.specs.Id.{ref}
use Rattle.ids.specs.declared.Index.{Index}
use Rattle.ids.specs.declared.Index.TheVariants.{Terminal, Node, Unknown}

-- By whether the id is a terminal, and whether it is known.
abbrev pub named : Bool → Bool → ℕ → Index
named true known n = Terminal
named false true n = Node n
named false false n = Unknown

abbrev pub index_of : ℕ → ℕ → Index
index_of used id = named (eqb (ref id) 0) (leb (ref id) used) (ref id - 1)
