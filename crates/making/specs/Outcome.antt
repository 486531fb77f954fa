-- What an operation on a lent table finds and leaves. Assumes nothing.
use Rattle.std.specs.Prelude.{◌≡◌, true, false, List, ◌∷◌, ℕ, suc, ◌*◌, ◌≤◌, ◌<◌, length, get_or}
use Rattle.diagram.specs.Pieces.{last, cut}
use Rattle.diagram.specs.Shape.{Each, Rising, Reduced}
use Rattle.diagram.specs.Table.{variables, top_of, Node, Table}
use Rattle.diagram.specs.Sound.{Child}
use Rattle.diagram.specs.Room.{Fits}
use Rattle.algebra.specs.Making.{create_node}
use Rattle.table.specs.Layout.{kid_at, cut_at, room, start, Store}
use Rattle.table.specs.Lent.{SoundLent}
use Rattle.table.specs.Held.{held}
use Rattle.table.specs.Told.{Allowed}
use Rattle.making.specs.declared.edges.Edges as built
use Rattle.table.specs.declared.lent.Used.{Used}
use Rattle.making.specs.Made.{Made}
use Rattle.making.specs.Building.{Building, pieces_of}

-- A sound lent table, and how much of it is used.
pub record Lent (h : Used) (st : Store) (index : List ℕ) : Type 0 where
  pub allowed : Allowed st index
  pub sound : SoundLent st index h.nodes
  pub edges : h.edges ≡ start st.nodes h.nodes

-- What it holds.
abbrev pub table_of : Used → Store → Table
table_of h st = held st h.nodes

-- The words that h calls used stay, and no less is used after it.
pub record Stays (h : Used) (st : Store) (h' : Used) (st' : Store) : Type 0 where
  pub long : length st'.nodes ≡ length st.nodes
  pub wide : length st'.children ≡ length st.children
  pub nodes_more : h.nodes ≤ h'.nodes
  pub edges_more : h.edges ≤ h'.edges
  pub word : (i : ℕ) → i < h.nodes * 4 → get_or st'.nodes i 0 ≡ get_or st.nodes i 0
  pub child : (i : ℕ) → i < h.edges → kid_at st'.children i ≡ kid_at st.children i
  pub cut : (i : ℕ) → i < h.edges → cut_at st'.cuts i ≡ cut_at st.cuts i

-- Every making function leaves a sound table that continues the one it found. Done, the table and the id are those that the
-- mathematics wants; else what it wants has no room.
pub record Outcome (h : Used) (want : Table × ℕ) (r : Made) (st : Store) (st' : Store) (index' : List ℕ) : Type 0 where
  pub lent : Lent r.used st' index'
  pub stays : Stays h st r.used st'
  pub table : r.ok ≡ true → table_of r.used st' ≡ want.0
  pub id : r.ok ≡ true → r.id.0 ≡ want.1
  pub full : r.ok ≡ false → Fits (room st.nodes) (length st.children) want.0 → ⊥

-- Every word is as it was.
pub record Untouched (st : Store) (index : List ℕ) (st' : Store) (index' : List ℕ) : Type 0 where
  pub same : st' ≡ st
  pub index_same : index' ≡ index

-- The outcome of making one node: where it finds no room it writes nothing.
pub record Creates (h : Used) (want : Table × ℕ) (r : Made) (st : Store) (index : List ℕ) (st' : Store) (index' : List ℕ) : Type 0 where
  pub outcome : Outcome h want r st st' index'
  pub untouched : r.ok ≡ false → Untouched st index st' index'

-- The node of a boolean variable over a high child and a low one.
abbrev pub create_pair : Table → ℕ → ℕ → ℕ → Table × ℕ
create_pair t v high low = create_node t v (cut high 1 (last low))

-- Edges from which a node of variable v can be made in the table t: merged, rising, and their children later than v.
pub record Buildable (t : Table) (v : ℕ) (es : built.Edges) : Type 0 where
  pub building : Building es
  pub known : v < variables
  pub reduced : Reduced 0 (top_of v) (pieces_of es)
  pub kids : Each (Child t (suc v)) (pieces_of es)

-- The same before neighbours that agree are merged.
pub record Mergeable (t : Table) (v : ℕ) (es : built.Edges) : Type 0 where
  pub building : Building es
  pub known : v < variables
  pub rises : Rising 0 (top_of v) (pieces_of es)
  pub kids : Each (Child t (suc v)) (pieces_of es)

-- A sound table, with some number of used records, and edges from which a node can be made in it.
pub record Findable (st : Store) (index : List ℕ) (v : ℕ) (es : built.Edges) : Type 0 where
  pub used : ℕ
  pub sound : SoundLent st index used
  pub buildable : Buildable (held st used) v es

-- One node more.
pub record Added (h : Used) (nd : Node) (h' : Used) (st : Store) (st' : Store) (index' : List ℕ) : Type 0 where
  pub lent : Lent h' st' index'
  pub stays : Stays h st h' st'
  pub used : h'.nodes ≡ suc h.nodes
  pub table : table_of h' st' ≡ nd ∷ table_of h st

-- Nodes taken back, down to `used` of them: what is left of the table is as it was before they came.
pub record TakenBack (used : ℕ) (h : Used) (st : Store) (h' : Used) (st' : Store) (index' : List ℕ) : Type 0 where
  pub lent : Lent h' st' index'
  pub used_is : h'.nodes ≡ used
  pub stays : Stays h' st' h st
