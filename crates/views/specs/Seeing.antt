-- What a view shows: the edges that `edges_of` of the mathematics gives an id at a variable, read where they stand. Assumes nothing.
use Rattle.std.specs.Prelude.{◌≡◌, cond, List, ℕ, zero, suc, ◌+◌, ◌-◌, ◌*◌, ◌≤◌, ◌<◌, eqb, length, ℤ}
use Rattle.ids.specs.Id.{sign, ref, under, KnownTo}
use Rattle.diagram.specs.Pieces.{Pieces}
use Rattle.diagram.specs.Shape.{run}
use Rattle.diagram.specs.Table.{variables, is_range, Table, at, most_edges}
use Rattle.diagram.specs.Cofactor.{edges_of}
use Rattle.diagram.specs.Sound.{Sound}
use Rattle.table.specs.Layout.{most_nodes, var_at, count_at, first_at, kid_at, cut_at, cut_position, room, start, Store}
use Rattle.table.specs.Lent.{Rules}
use Rattle.table.specs.Held.{held}
use Rattle.views.specs.declared.View.{View}

-- How many records are used: up to the last that has edges.
unfoldable pub used_to : List ℕ → ℕ → ℕ
used_to nodes zero = 0
used_to nodes (suc n) = cond (eqb (count_at nodes n) 0) (used_to nodes n) (suc n)

abbrev pub used_in : List ℕ → ℕ
used_in nodes = used_to nodes (room nodes)

-- A table that can be read: each of its u records keeps the rules, and they hold a sound table.
pub record Readable (st : Store) (u : ℕ) : Type 0 where
  pub fits : u * 4 ≤ length st.nodes
  pub cut_each : length st.cuts ≡ length st.children
  pub small : u ≤ most_nodes
  pub rules : (n : ℕ) → n < u → Rules st n
  pub sound : Sound (held st u)

-- An id that is known where u nodes are used, and has fewer than n variables ahead, its own counted: a terminal has none.
pub record Asked (t : Table) (u n id : ℕ) : Type 0 where
  pub known : KnownTo u id
  pub ahead : variables < (at t (ref id)).var + n

-- The cut of a last edge, as the walks along two sides see it: past each position.
abbrev pub beyond : ℕ
beyond = 8589934593

-- Child j of a view, under the sign of its id; of a view with one edge, the id itself.
unfoldable pub child_seen : List ℕ → View → ℕ → ℕ
child_seen children w j = cond (eqb w.count 1) w.id.0 (under (sign w.id.0) (kid_at children (w.first + j)))

-- Its cut j: of a boolean variable, position 1.
unfoldable pub cut_seen : List ℤ → ℕ → View → ℕ → ℕ
cut_seen cuts v w j = cond (is_range v) (cut_position (cut_at cuts (w.first + j))) 1

-- Its edges from edge j on.
unfoldable pub seen : List ℕ → List ℤ → ℕ → View → ℕ → Pieces ℕ
seen children cuts v w j = run (child_seen children w) (cut_seen cuts v w) j (w.count - 1 - j)

-- The view lies within the first e edges.
pub record Inside (e : ℕ) (w : View) : Type 0 where
  pub some : 1 ≤ w.count
  pub most : w.count ≤ most_edges
  pub within : 1 < w.count → w.first + w.count ≤ e

-- The view of an id at the variable v, by the words of its record: of a node that tests v its own edges, of any other id the id itself.
pub record Sees (nodes : List ℕ) (v id : ℕ) (w : View) : Type 0 where
  pub same_id : w.id.0 ≡ id
  pub own : 2 ≤ id → var_at nodes (ref id - 1) ≡ v → (w.first ≡ first_at nodes (ref id - 1)) × (w.count ≡ count_at nodes (ref id - 1))
  pub other : (2 ≤ id → var_at nodes (ref id - 1) ≡ v → ⊥) → w.count ≡ 1

-- A view of the edges of an id at the variable v.
pub record Views (st : Store) (u v id : ℕ) (w : View) : Type 0 where
  pub inside : Inside (start st.nodes u) w
  pub edges : seen st.children st.cuts v w 0 ≡ edges_of (held st u) v id
