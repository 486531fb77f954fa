-- What the writing functions change. Assumes nothing.
use Rattle.std.specs.Prelude.{◌≡◌, cond, ◌&&◌, List, ◌⊎◌, ℕ, ◌+◌, ◌*◌, ◌≤◌, ◌<◌, ltb, length, get_or, ℤ, pos}
use Rattle.ids.specs.Id.{under}
use Rattle.chains.specs.Row.{words, Stored}
use Rattle.ranges.specs.Ending.{place_at}
use Rattle.diagram.specs.Table.{is_range}
use Rattle.table.specs.Layout.{var_at, count_at, first_at, spare_at, kid_at, cut_at}
use Rattle.making.specs.declared.edges.Edges as built
use Rattle.making.specs.Building.{child_in, cut_in}

-- The stored cut of edge j: 0 beside a last edge and in a boolean node.
abbrev pub stored_cut : ℕ → ℕ → ℕ → ℕ → ℤ
stored_cut v j count cut = cond (is_range v && ltb (j + 1) count) (place_at cut) (pos 0)

-- The `count` edges from edge e on have these children and cuts, and no other edge is changed.
pub record EdgesWritten (children : List ℕ) (cuts : List ℤ) (e count : ℕ) (child : ℕ → ℕ) (cut : ℕ → ℤ) (children' : List ℕ) (cuts' : List ℤ) : Type 0 where
  pub wide : length children' ≡ length children
  pub deep : length cuts' ≡ length cuts
  pub child_other : (i : ℕ) → (i < e) ⊎ (e + count ≤ i) → kid_at children' i ≡ kid_at children i
  pub cut_other : (i : ℕ) → (i < e) ⊎ (e + count ≤ i) → cut_at cuts' i ≡ cut_at cuts i
  pub child_is : (j : ℕ) → j < count → kid_at children' (e + j) ≡ child j
  pub cut_is : (j : ℕ) → j < count → cut_at cuts' (e + j) ≡ cut j

-- Those of a node under construction, seen under a sign,
abbrev pub EdgesPut : List ℕ → List ℤ → ℕ → ℕ → ℕ → built.Edges → List ℕ → List ℤ → Type 0
EdgesPut children cuts e v s es children' cuts' = EdgesWritten children cuts e es.len (λ j. under s (child_in es j)) (λ j. stored_cut v j es.len (cut_in es j)) children' cuts'

-- or none.
abbrev pub EdgesBlank : List ℕ → List ℤ → ℕ → ℕ → List ℕ → List ℤ → Type 0
EdgesBlank children cuts e count children' cuts' = EdgesWritten children cuts e count (λ j. 0) (λ j. pos 0) children' cuts'

-- Record n is written, and no other is changed.
pub record RecordPut (nodes : List ℕ) (n v count first : ℕ) (nodes' : List ℕ) : Type 0 where
  pub long : length nodes' ≡ length nodes
  pub other : (i : ℕ) → (i < n * 4) ⊎ (n * 4 + 4 ≤ i) → get_or nodes' i 0 ≡ get_or nodes i 0
  pub variable : var_at nodes' n ≡ v
  pub counts : count_at nodes' n ≡ count
  pub firsts : first_at nodes' n ≡ first
  pub spare : spare_at nodes' n ≡ spare_at nodes n

-- The words of the index around node n of bucket b are changed, which stands between the nodes of the words p and q (`Stored` says how), its
-- hash word is h, and no other word is changed.
pub record IndexPut (r n b p q x y v w h : ℕ) (index index' : List ℕ) : Type 0 where
  pub broad : length index' ≡ length index
  pub chained : Stored r n b p q x y v w (words index) (words index')
  pub hash : get_or index' (r * 3 + n) 0 ≡ h
  pub other_hash : (m : ℕ) → (m ≡ n → ⊥) → get_or index' (r * 3 + m) 0 ≡ get_or index (r * 3 + m) 0
