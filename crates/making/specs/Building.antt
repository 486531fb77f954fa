-- A node under construction: its edges as the code holds them, and how they are stored. Document 01, step 4. Assumes nothing.
use Rattle.std.specs.Prelude.{◌≡◌, cond, ◌&&◌, List, ℕ, zero, suc, ◌+◌, ◌-◌, ◌%◌, ◌≤◌, ◌^◌, ltb, length, get_or, set, replicate}
use Rattle.ids.specs.Id.{under}
use Rattle.chains.specs.Lexical.{key}
use Rattle.diagram.specs.Pieces.{Pieces}
use Rattle.diagram.specs.Shape.{run}
use Rattle.diagram.specs.Table.{is_range, Node, most_edges}
use Rattle.diagram.specs.Cofactor.{map}
use Rattle.table.specs.Indexed.{mix}
use Rattle.making.specs.declared.edges.Edge.{Edge}
use Rattle.making.specs.declared.edges.Edges as built

abbrev pub none : Edge
none = record { cut = 0; child = record { 0 = 0 }; spare = 0 }

-- Child j and cut j of a node under construction.
abbrev pub child_in : built.Edges → ℕ → ℕ
child_in es j = (get_or es.list j none).child.0

abbrev pub cut_in : built.Edges → ℕ → ℕ
cut_in es j = (get_or es.list j none).cut

-- Its edges.
abbrev pub pieces_of : built.Edges → Pieces ℕ
pieces_of es = run (child_in es) (cut_in es) 0 (es.len - 1)

-- "At most 64 edges", and at least one.
pub record Building (es : built.Edges) : Type 0 where
  pub size : length es.list ≡ most_edges
  pub some : 1 ≤ es.len
  pub most : es.len ≤ most_edges

-- The node of variable v over these edges, seen under a sign: "flip if the first child is complemented".
abbrev pub node_of : ℕ → ℕ → built.Edges → Node
node_of v s es = record { var = v; edges = map (under s) (pieces_of es) }

-- The position of the stored cut of an edge: its own, and where no cut is stored that of the 0 which stands there.
abbrev pub zero_cut : ℕ
zero_cut = 4294967297

unfoldable pub key_in : ℕ → built.Edges → ℕ → ℕ
key_in v es j = cond (is_range v && ltb (j + 1) es.len) (cut_in es j) zero_cut

-- The hash of the node, as the index has it of stored ones.
unfoldable pub hash_in : ℕ → ℕ → built.Edges → ℕ → ℕ
hash_in v s es zero = v % 2 ^ 32
hash_in v s es (suc j) = mix (hash_in v s es j) (under s (child_in es j)) (key_in v es j)

-- What the node is ordered by, as the index has it of stored ones.
unfoldable pub content_of : ℕ → ℕ → built.Edges → List ℕ
content_of v s es = key (hash_in v s es es.len) v es.len (λ j. under s (child_in es j)) (key_in v es)

-- A node of two edges. The code makes it from the two alone; this is the form in which the same is said of it as of other nodes.
unfoldable pub two_list : Edge → Edge → List Edge
two_list a b = set (set (replicate most_edges none) 0 a) 1 b

abbrev pub two_of : Edge → Edge → built.Edges
two_of a b = record { list = two_list a b; len = 2 }
