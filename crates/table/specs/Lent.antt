-- When a lent table is sound. Document 01, "A sound table", bullet by bullet, on the words themselves. Assumes nothing.
use Rattle.std.specs.Prelude.{◌≡◌, List, ◌⊎◌, ℕ, ◌+◌, ◌-◌, ◌*◌, ◌≤◌, ◌<◌, length, get_or, ℤ, pos, ◌<ℤ◌}
use Rattle.ids.specs.Id.{sign, ref}
use Rattle.ranges.specs.Line.{Cut}
use Rattle.diagram.specs.Table.{variables, first_boolean, most_edges}
use Rattle.table.specs.Layout.{var_at, count_at, first_at, spare_at, kid_at, cut_at, room, start, Store}
use Rattle.table.specs.Indexed.{Indexed}

-- "Each child is a terminal, or an earlier node whose variable is later in the order."
abbrev pub Stands : List ℕ → ℕ → ℕ → ℕ → Type 0
Stands nodes n v c = (c < 2) ⊎ ((ref c ≤ n) × (v < var_at nodes (ref c - 1)))

pub record KidsStand (nodes children : List ℕ) (n v e count : ℕ) : Type 0 where
  pub stand : (j : ℕ) → j < count → Stands nodes n v (kid_at children (e + j))
  -- "neighbouring children different"
  pub differ : (j : ℕ) → j + 1 < count → kid_at children (e + (j + 1)) ≡ kid_at children (e + j) → ⊥

-- "Cuts strictly rising and all within -2^32 to 2^32-1", and nothing beside the last edge, which is "open to the right".
pub record Cuts (cuts : List ℤ) (e count : ℕ) : Type 0 where
  pub within : (j : ℕ) → j + 1 < count → Cut (cut_at cuts (e + j))
  pub strictly : (j : ℕ) → j + 2 < count → cut_at cuts (e + j) <ℤ cut_at cuts (e + (j + 1))
  pub last : cut_at cuts (e + (count - 1)) ≡ pos 0

-- "Fields that a record has no use for" are zero: "a cut beside .. a boolean one".
pub record Blank (cuts : List ℤ) (e : ℕ) : Type 0 where
  pub high : cut_at cuts e ≡ pos 0
  pub low : cut_at cuts (e + 1) ≡ pos 0

-- Record n by itself and against the records before it.
pub record Rules (st : Store) (n : ℕ) : Type 0 where
  pub known : var_at st.nodes n < variables
  -- "a range node has 2 to 64 edges"
  pub many : 2 ≤ count_at st.nodes n
  pub most : count_at st.nodes n ≤ most_edges
  -- "a boolean node has two edges"
  pub two : first_boolean ≤ var_at st.nodes n → count_at st.nodes n ≡ 2
  -- the word that is kept for later has no use yet
  pub spare : spare_at st.nodes n ≡ 0
  -- "edges of nodes follow one another in node order without a gap"
  pub packed : first_at st.nodes n ≡ start st.nodes n
  pub inside : first_at st.nodes n + count_at st.nodes n ≤ length st.children
  -- "the first child is never complemented"
  pub plain : sign (kid_at st.children (first_at st.nodes n)) ≡ 0
  pub edges : KidsStand st.nodes st.children n (var_at st.nodes n) (first_at st.nodes n) (count_at st.nodes n)
  pub ranges : var_at st.nodes n < first_boolean → Cuts st.cuts (first_at st.nodes n) (count_at st.nodes n)
  pub booleans : first_boolean ≤ var_at st.nodes n → Blank st.cuts (first_at st.nodes n)

-- Two runs of edges with the same children and cuts,
pub record SameRun (children : List ℕ) (cuts : List ℤ) (a b count : ℕ) : Type 0 where
  pub child : (j : ℕ) → j < count → kid_at children (a + j) ≡ kid_at children (b + j)
  pub cut : (j : ℕ) → j < count → cut_at cuts (a + j) ≡ cut_at cuts (b + j)

-- and two records with "the same variable and edges".
pub record SameRecord (st : Store) (m n : ℕ) : Type 0 where
  pub variable : var_at st.nodes m ≡ var_at st.nodes n
  pub count : count_at st.nodes m ≡ count_at st.nodes n
  pub edges : SameRun st.children st.cuts (first_at st.nodes m) (first_at st.nodes n) (count_at st.nodes n)

-- The records of a sound table that uses u of them, with their edges: every bullet but the last.
pub record SoundRecords (st : Store) (u : ℕ) : Type 0 where
  pub fits : u ≤ room st.nodes
  pub rules : (n : ℕ) → n < u → Rules st n
  -- "no two nodes have the same variable and edges"
  pub single : (m n : ℕ) → m < n → n < u → SameRecord st m n → ⊥
  -- "unused records are zero"
  pub no_node : (i : ℕ) → u * 4 ≤ i → get_or st.nodes i 0 ≡ 0
  pub no_child : (i : ℕ) → start st.nodes u ≤ i → kid_at st.children i ≡ 0
  pub no_cut : (i : ℕ) → start st.nodes u ≤ i → cut_at st.cuts i ≡ pos 0

-- A sound table that uses u records: "the index is what the node records, taken in order, determine".
pub record SoundLent (st : Store) (index : List ℕ) (u : ℕ) : Type 0 where
  pub records : SoundRecords st u
  pub indexed : Indexed st index u
