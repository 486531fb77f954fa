-- Variables, nodes, tables, and the truth of an id. Document 01, "Readings and conditions". Assumes nothing.
use Rattle.std.specs.Prelude.{Bool, true, not, cond, List, [], ◌∷◌, ℕ, zero, suc, ltb, eqb, length}
use Rattle.ids.specs.Id.{sign, ref}
use Rattle.ranges.specs.Line.{top}
use Rattle.diagram.specs.Pieces.{Pieces, last, select}

-- "Variables are numbered 0 to 63, lower first in the order."
abbrev pub variables : ℕ
variables = 64

-- "0 to 31 are range variables, 32 to 63 are boolean."
abbrev pub first_boolean : ℕ
first_boolean = 32

abbrev pub is_range : ℕ → Bool
is_range v = ltb v first_boolean

-- The highest position of a variable: that of the highest place; of a boolean one, which has two positions, 0 for yes (the high
-- edge, which stands first) and 1 for no.
abbrev pub top_of : ℕ → ℕ
top_of v = cond (is_range v) top 1

-- "The 64 edges a node."
abbrev pub most_edges : ℕ
most_edges = 64

-- A node: its variable, and the id of a child at each position of that variable.
pub record Node : Type 0 where
  pub var : ℕ
  pub edges : Pieces ℕ

-- A table: its nodes, newest first. So the number of the node in front is the number of nodes behind it.
abbrev pub Table : Type 0
Table = List Node

-- "A table that continues this one": nodes may be added, the old ones stay with their numbers.
pub data Continues (t : Table) : Table → Type 0 where
  same : Continues t t
  more : {s : Table} (nd : Node) → Continues t s → Continues t (nd ∷ s)

-- The node that a ref stands for: n + 1 node number n, and 0 the terminal, as one that is later in the order than each variable.
unfoldable pub at : Table → ℕ → Node
at [] r = record { var = variables; edges = last 0 }
at (nd ∷ t) r = cond (eqb r (suc (length t))) nd (at t r)

-- A position for each variable.
abbrev pub Assignment : Type 0
Assignment = ℕ → ℕ

-- a truth, negated under the sign 1
abbrev pub flipped : ℕ → Bool → Bool
flipped zero b = b
flipped (suc s) b = not b

abbrev pub signed : ℕ → Bool → Bool
signed id b = flipped (sign id) b

-- What an id says: a terminal's is yes, and a node's what its child at the position of its variable says; "the lowest bit is the
-- complement".
unfoldable pub value : Table → Assignment → ℕ → Bool
value [] α id = signed id true
value (nd ∷ t) α id = cond (eqb (ref id) (suc (length t))) (signed id (value t α (select nd.edges (α nd.var)))) (value t α id)
