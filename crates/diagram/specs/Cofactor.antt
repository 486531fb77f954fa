-- The children of an id at a variable: what every operation goes down by. Assumes nothing.
use Rattle.std.specs.Prelude.{cond, ℕ, ◌≤◌, eqb}
use Rattle.ids.specs.Id.{sign, ref, under}
use Rattle.diagram.specs.Pieces.{Pieces, last, cut}
use Rattle.diagram.specs.Table.{top_of, Table, at, Assignment}

unfoldable pub map : {A B : Type 0} → (A → B) → Pieces A → Pieces B
map f (last a) = last (f a)
map f (cut a k e) = cut (f a) k (map f e)

-- The id's own children where its node tests the variable, each negated if the id is complemented ("Forgetting to negate a child
-- when its parent id is complemented" was a fault); else the id itself, everywhere.
unfoldable pub edges_of : Table → ℕ → ℕ → Pieces ℕ
edges_of t v id =
    let nd = at t (ref id) in
    cond (eqb nd.var v) (map (under (sign id)) nd.edges) (last id)

-- An assignment with a variable at another position.
abbrev pub upd : Assignment → ℕ → ℕ → Assignment
upd α v p = λ w. cond (eqb w v) p (α w)

-- An assignment within the positions of each variable.
abbrev pub Within : Assignment → Type 0
Within α = (v : ℕ) → α v ≤ top_of v
