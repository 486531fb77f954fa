-- The words of a lent table, and how many of them there may be. docs/LAYOUT.md says the same in words. Document 01, "A sound table".
-- Assumes nothing.
use Rattle.std.specs.Prelude.{◌≡◌, cond, List, ℕ, zero, suc, ◌+◌, ◌*◌, ◌/◌, ◌≤◌, ◌^◌, ltb, length, get_or, ℤ, pos, negsuc}
use Rattle.ranges.specs.Line.{position}

-- "Node room is 1 to 4,096 records, edge room 2 to 16,384."
abbrev pub most_nodes : ℕ
most_nodes = 4096

abbrev pub most_edge_room : ℕ
most_edge_room = 16384

-- The words that hold the nodes of one table: the records, the children of their edges, and their cuts. The index stands beside them, since
-- they determine it.
pub record Store : Type 0 where
  pub nodes : List ℕ
  pub children : List ℕ
  pub cuts : List ℤ

-- The same, of lists in this order.
abbrev pub store : List ℕ → List ℕ → List ℤ → Store
store nodes children cuts = record { nodes = nodes; children = children; cuts = cuts }

-- The words of record n: variable, edge count, first edge, and a word that is kept for later.
abbrev pub var_at : List ℕ → ℕ → ℕ
var_at nodes n = get_or nodes (n * 4) 0

abbrev pub count_at : List ℕ → ℕ → ℕ
count_at nodes n = get_or nodes (n * 4 + 1) 0

abbrev pub first_at : List ℕ → ℕ → ℕ
first_at nodes n = get_or nodes (n * 4 + 2) 0

abbrev pub spare_at : List ℕ → ℕ → ℕ
spare_at nodes n = get_or nodes (n * 4 + 3) 0

-- Edge i: the id of its child, and its cut.
abbrev pub kid_at : List ℕ → ℕ → ℕ
kid_at children i = get_or children i 0

abbrev pub cut_at : List ℤ → ℕ → ℤ
cut_at cuts i = get_or cuts i (pos 0)

-- How many records there is room for.
abbrev pub room : List ℕ → ℕ
room nodes = length nodes / 4

-- The edges of the nodes before n: where the edges of node n start, if none is left out.
unfoldable pub start : List ℕ → ℕ → ℕ
start nodes zero = 0
start nodes (suc n) = start nodes n + count_at nodes n

-- "Index and memo have lengths that the team fixes in docs/ for each room": the lengths that are allowed.
pub record Lengths (nodes children cuts index : ℕ) : Type 0 where
  pub whole : nodes ≡ nodes / 4 * 4
  pub some_nodes : 1 ≤ nodes / 4
  pub nodes_at_most : nodes / 4 ≤ most_nodes
  pub some_edges : 2 ≤ children
  pub edges_at_most : children ≤ most_edge_room
  pub cut_each : cuts ≡ children
  pub indexed : index ≡ nodes / 4 * 4

-- Of a memo, which is words of 64 bits: whole sets of eight words, at least one, and at most one for each node record.
pub record MemoLengths (memo rooms : ℕ) : Type 0 where
  pub sets : memo ≡ memo / 8 * 8
  pub some_sets : 1 ≤ memo / 8
  pub most_sets : memo / 8 ≤ rooms

-- A stored cut by its position, from 1 to 2^33, and 0 for a number that is no cut.
abbrev pub cut_position : ℤ → ℕ
cut_position (pos n) = cond (ltb n (2 ^ 32)) (position (pos n)) 0
cut_position (negsuc n) = position (negsuc n)
