-- Room: how many nodes and edges a table has, and whether it fits. Document 01, row 6 of "When the kernel is told no". Assumes nothing.
use Rattle.std.specs.Prelude.{[], ◌∷◌, ℕ, ◌+◌, ◌≤◌, ◌<◌, length}
use Rattle.diagram.specs.Shape.{count}
use Rattle.diagram.specs.Table.{most_edges, Table, at}

-- The number of edges of the node that a ref stands for.
abbrev pub width : Table → ℕ → ℕ
width t r = count (at t r).edges

-- The number of edges of all nodes.
abbrev pub edge_total : Table → ℕ
edge_total [] = 0
edge_total (nd ∷ t) = count nd.edges + edge_total t

-- A table within a room for nodes and a room for edges, "and the 64 edges a node".
pub record Fits (nodes edges : ℕ) (t : Table) : Type 0 where
  pub nodes_fit : length t ≤ nodes
  pub edges_fit : edge_total t ≤ edges
  pub widths_fit : (r : ℕ) → 0 < r → r ≤ length t → width t r ≤ most_edges
