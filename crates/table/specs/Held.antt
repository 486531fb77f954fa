-- What a lent table holds: its records as nodes of the mathematics. Assumes nothing.
use Rattle.std.specs.Prelude.{cond, List, [], ◌∷◌, ℕ, zero, suc, ◌+◌, ◌-◌, ℤ}
use Rattle.diagram.specs.Pieces.{Pieces, last, cut}
use Rattle.diagram.specs.Table.{is_range, Node, Table}
use Rattle.table.specs.Layout.{var_at, count_at, first_at, kid_at, cut_at, cut_position, Store}

-- Edges from edge i on, with m cuts.
unfoldable pub edges_from : List ℕ → List ℤ → ℕ → ℕ → Pieces ℕ
edges_from children cuts i zero = last (kid_at children i)
edges_from children cuts i (suc m) = cut (kid_at children i) (cut_position (cut_at cuts i)) (edges_from children cuts (suc i) m)

-- The edges of a node of variable v: a boolean one has two, high at position 0 and low at position 1.
unfoldable pub edges_at : List ℕ → List ℤ → ℕ → ℕ → ℕ → Pieces ℕ
edges_at children cuts v e count = cond (is_range v) (edges_from children cuts e (count - 1)) (cut (kid_at children e) 1 (last (kid_at children (e + 1))))

abbrev pub node_at : Store → ℕ → Node
node_at st n = record { var = var_at st.nodes n; edges = edges_at st.children st.cuts (var_at st.nodes n) (first_at st.nodes n) (count_at st.nodes n) }

-- The table of the first n records.
unfoldable pub held : Store → ℕ → Table
held st zero = []
held st (suc n) = node_at st n ∷ held st n
