-- Node making. Document 01, step 4; `create_node` of the source. Assumes nothing.
use Rattle.std.specs.Prelude.{Bool, false, cond, ◌&&◌, [], ◌∷◌, ℕ, zero, suc, ◌+◌, ◌*◌, eqb, length}
use Rattle.ids.specs.Id.{sign, under}
use Rattle.diagram.specs.Pieces.{Pieces, last, cut}
use Rattle.diagram.specs.Shape.{first}
use Rattle.diagram.specs.Table.{Node, Table}
use Rattle.diagram.specs.Cofactor.{map}
use Rattle.algebra.specs.Overlay.{merge}

abbrev pub same_edges : Pieces ℕ → Pieces ℕ → Bool
same_edges (last c) (last d) = eqb c d
same_edges (last c) (cut d l f) = false
same_edges (cut c k e) (last d) = false
same_edges (cut c k e) (cut d l f) = eqb c d && (eqb k l && same_edges e f)

abbrev pub same_node : Node → Node → Bool
same_node m n = eqb m.var n.var && same_edges m.edges n.edges

-- the ref of a node of the table, or 0 if it has no such node
unfoldable pub find : Table → Node → ℕ
find [] nd = 0
find (x ∷ t) nd = cond (same_node x nd) (suc (length t)) (find t nd)

-- "else find it or add it as the next number": the table and the id, with the sign that was flipped away
unfoldable pub intern : Table → Node → ℕ → Table × ℕ
intern t nd s = elim (find t nd) [ zero ↦ (nd ∷ t, 2 * suc (length t) + s) | suc r ↦ (t, 2 * suc r + s) ]

-- "Then flip if the first child is complemented": the sign under which the first child is plain,
unfoldable pub first_sign : Pieces ℕ → ℕ
first_sign e = sign (first e)

-- "drop the node if all children agree": of merged edges, all agree exactly when one is left.
unfoldable pub settle : Table → ℕ → Pieces ℕ → Table × ℕ
settle t v (last c) = (t, c)
settle t v (cut c k e) =
    let s = first_sign (cut c k e) in
    intern t (record { var = v; edges = map (under s) (cut c k e) }) s

-- "Neighbouring edges with equal children are merged first."
abbrev pub create_node : Table → ℕ → Pieces ℕ → Table × ℕ
create_node t v e = settle t v (merge e)
