-- When a table is sound. Document 01, "A sound table", as far as it speaks of nodes: rooms, the
-- sixty-four edges, packing, zeroed tails and the index belong to lent tables. Assumes nothing.
use Rattle.std.specs.Prelude.{◌≡◌, [], ◌∷◌, ℕ, suc, ◌≤◌, ◌<◌, length}
use Rattle.ids.specs.Id.{sign, ref, KnownTo}
use Rattle.diagram.specs.Shape.{first, count, Each, Reduced}
use Rattle.diagram.specs.Table.{variables, top_of, Node, Table, at}

-- An id of the table: a terminal or the id of one of its nodes.
abbrev pub Known : Table → ℕ → Type 0
Known t id = KnownTo (length t) id

-- An id of the table whose variable is u or later: a terminal's is later than each.
abbrev pub Child : Table → ℕ → ℕ → Type 0
Child t u id = Known t id × (u ≤ (at t (ref id)).var)

-- A node that extends the table t by one.
pub record Extends (t : Table) (nd : Node) : Type 0 where
  pub known : nd.var < variables
  -- "a range node has 2 to 64 edges ..; a boolean node has two edges, high first, and they differ": at least two here; a boolean
  -- node has two positions, so no more than two
  pub many : 2 ≤ count nd.edges
  -- "cuts strictly rising and all within -2^32 to 2^32-1, the last edge open to the right, neighbouring children different": the
  -- cuts are the positions from 1 to the top
  pub reduced : Reduced 0 (top_of nd.var) nd.edges
  -- "the first child is never complemented"
  pub plain : sign (first nd.edges) ≡ 0
  -- "each child is a terminal, or an earlier node whose variable is later in the order"
  pub kids : Each (Child t (suc nd.var)) nd.edges
  -- "no two nodes have the same variable and edges"
  pub new : (r : ℕ) → r ≤ length t → at t r ≡ nd → ⊥

abbrev pub Sound : Table → Type 0
Sound [] = Unit {0}
Sound (nd ∷ t) = Extends t nd × Sound t
