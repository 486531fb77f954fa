-- What the functions behind the calls decide on the way. A reader of the promises needs none of it. Assumes nothing.
use Rattle.std.specs.Prelude.{◌≡◌, Bool, true, false, cond, List, Option, Some, None, ℕ, zero, suc, ◌+◌, ◌-◌, ◌*◌, ◌≤◌, ◌<◌, ◌^◌, get_or, ℤ, pos, Decides}
use Rattle.chains.specs.Lexical.{run}
use Rattle.chains.specs.Local.{tally, Linked}
use Rattle.chains.specs.Row.{words, next_of, prev_of}
use Rattle.diagram.specs.Pieces.{select}
use Rattle.diagram.specs.Table.{first_boolean, is_range, Assignment}
use Rattle.table.specs.Layout.{var_at, count_at, first_at, kid_at, cut_at, room, start, cut_position, Store}
use Rattle.table.specs.Indexed.{hash_to, hash_at, bucket_at, precedes}
use Rattle.table.specs.Lent.{KidsStand, Rules, SoundRecords, SoundLent}
use Rattle.ids.specs.Id.{KnownTo}
use Rattle.table.specs.Held.{edges_from, edges_at}
use Rattle.table.specs.Told.{bit}
use Rattle.table.specs.declared.lent.Used.{Used}

-- What cut j of a node has to be above: the cut before it; the first has only to be a cut.
abbrev pub below : List ℤ → ℕ → ℕ → ℕ
below cuts e zero = 0
below cuts e (suc j) = cut_position (cut_at cuts (e + j))

-- `Cuts`, by positions.
pub record Climbs (cuts : List ℤ) (e count : ℕ) : Type 0 where
  pub rise : (j : ℕ) → j + 1 < count → below cuts e j < cut_position (cut_at cuts (e + j))
  pub last : cut_at cuts (e + (count - 1)) ≡ pos 0

-- Where the code answers a hash, or none: whether there is one, and the hash, or 0.
abbrev pub keeps : Option ℕ → Bool
keeps (Some h) = true
keeps None = false

abbrev pub hash_in : Option ℕ → ℕ
hash_in (Some h) = h
hash_in None = 0

-- One pass over a node's edges: whether they keep the rules, that for cuts being its kind's, and then their hash.
pub record Passes (st : Store) (n v e count : ℕ) (rule : Type 0) (ok : Bool) (hash : ℕ) : Type 0 where
  pub decides : Decides ok (KidsStand st.nodes st.children n v e count × rule)
  pub hashed : ok ≡ true → hash ≡ hash_to st.children st.cuts v e count
  pub small : hash < 2 ^ 32

-- Whether record n keeps the rules, and then its hash.
pub record Keeps (st : Store) (n : ℕ) (ok : Bool) (hash : ℕ) : Type 0 where
  pub decides : Decides ok (Rules st n)
  pub hashed : ok ≡ true → hash ≡ hash_to st.children st.cuts (var_at st.nodes n) (first_at st.nodes n) (count_at st.nodes n)
  pub small : hash < 2 ^ 32

-- The children and cuts of n edges of a node whose first edge is a, from its edge j on, as nodes are ordered by them.
abbrev pub run_at : List ℕ → List ℤ → ℕ → ℕ → ℕ → List ℕ
run_at children cuts a j n = run (λ i. kid_at children (a + i)) (λ i. cut_position (cut_at cuts (a + i))) j n

-- Record n keeps the rules, and the index holds its hash.
pub record Recorded (st : Store) (index : List ℕ) (n : ℕ) : Type 0 where
  pub rules : Rules st n
  pub hashed : get_or index (room st.nodes * 3 + n) 0 ≡ hash_at st n

-- Node n, of u, is the first of its bucket, or it and a node of its bucket that comes before it name one another.
abbrev pub LinkedAt : Store → List ℕ → ℕ → ℕ → Type 0
LinkedAt st index u n = Linked (precedes st) (bucket_at st) u (words index) (next_of (room st.nodes) (words index)) (prev_of (room st.nodes) (words index)) n

-- Nothing lies behind u nodes and e edges, and u of the words for firsts and nexts are not 0.
pub record Rest (st : Store) (index : List ℕ) (u e : ℕ) : Type 0 where
  pub no_node : (i : ℕ) → u * 4 ≤ i → get_or st.nodes i 0 ≡ 0
  pub no_child : (i : ℕ) → e ≤ i → kid_at st.children i ≡ 0
  pub no_cut : (i : ℕ) → e ≤ i → cut_at st.cuts i ≡ pos 0
  pub no_next : (i : ℕ) → room st.nodes + u ≤ i → i < room st.nodes * 2 → get_or index i 0 ≡ 0
  pub no_prev : (i : ℕ) → room st.nodes * 2 + u ≤ i → i < room st.nodes * 3 → get_or index i 0 ≡ 0
  pub no_hash : (i : ℕ) → room st.nodes * 3 + u ≤ i → get_or index i 0 ≡ 0
  pub full : tally (words index) (room st.nodes + u) ≡ u

-- The check's answer: sound with that many nodes and edges, or not sound whatever the number of nodes.
pub data Judges (st : Store) (index : List ℕ) (u e : ℕ) : Bool → Type 0 where
  sound : SoundLent st index u → e ≡ start st.nodes u → Judges st index u e true
  unsound : ((u : ℕ) → SoundLent st index u → ⊥) → Judges st index u e false

-- Of the counts that the code answers for a sound table, if it is one.
abbrev pub found : Option Used → Bool
found (Some u) = true
found None = false

abbrev pub nodes_found : Option Used → ℕ
nodes_found (Some u) = u.nodes
nodes_found None = 0

abbrev pub edges_found : Option Used → ℕ
edges_found (Some u) = u.edges
edges_found None = 0

-- A reading as a position for each variable.
unfoldable pub spots : List ℤ → ℕ → Assignment
spots places bools v = cond (is_range v) (cut_position (cut_at places v)) (1 - bit bools (v - first_boolean))

-- Sound records, and an id that is known where so many are used.
pub record Legible (st : Store) (id : ℕ) : Type 0 where
  pub used : ℕ
  pub records : SoundRecords st used
  pub known : KnownTo used id

-- The child that a scan of the edges chooses,
pub record Chosen (children : List ℕ) (cuts : List ℤ) (e count p r : ℕ) : Type 0 where
  pub right : r ≡ select (edges_from children cuts e (count - 1)) p
  pub among : (b : ℕ) → ((j : ℕ) → j < count → kid_at children (e + j) < b) → r < b

-- and that node n has there.
pub record Next (st : Store) (α : Assignment) (n r : ℕ) : Type 0 where
  pub right : r ≡ select (edges_at st.children st.cuts (var_at st.nodes n) (first_at st.nodes n) (count_at st.nodes n)) (α (var_at st.nodes n))
  pub earlier : r < n * 2 + 2
