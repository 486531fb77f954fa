-- Any ordered diagram, what it says, what it reaches, and how much that is. Document 01, "An ordered diagram in demand 3". It is
-- written apart from tables: nodes in any order, edges in any order, none of the rules of a sound table. Assumes nothing.
use Rattle.std.specs.Prelude.{◌≡◌, Bool, true, cond, ◌&&◌, ◌↔◌, ℕ, suc, ◌+◌, ◌-◌, ◌≤◌, ◌<◌, leb, length}
use mathlib.Core.List.{List, [], ◌∷◌, Memᴰ}
use Rattle.ids.specs.Id.{ref}
use Rattle.diagram.specs.Pieces.{Pieces, last, cut}
use Rattle.diagram.specs.Table.{first_boolean, variables, top_of, Table, at, Assignment, signed}

-- "Each range edge one unbroken run": its first and last position, and the id that it leads to.
pub record Run : Type 0 where
  pub from : ℕ
  pub upto : ℕ
  pub child : ℕ

-- "Any finite one": the variable and the edges of each node, by its ref, 1 to the size. Ids are as in a table: the node with ref r has
-- id 2·r, ref 0 is the terminal, and "complement marks anywhere" are lowest bits.
pub record Diagram : Type 0 where
  pub size : ℕ
  pub var : ℕ → ℕ
  pub runs : ℕ → List Run

abbrev pub holds : Run → ℕ → Bool
holds x p = leb x.from p && leb p x.upto

-- How many of the runs hold a position.
abbrev pub holders : List Run → ℕ → ℕ
holders [] p = 0
holders (x ∷ xs) p = cond (holds x p) (suc (holders xs p)) (holders xs p)

-- The rules for the node with ref r.
pub record OrderedAt (d : Diagram) (r : ℕ) : Type 0 where
  pub known : d.var r < variables
  pub closed : (x : Run) → Memᴰ x (d.runs r) → ref x.child ≤ d.size
  -- "variables strictly rising on each path"
  pub later : (x : Run) → Memᴰ x (d.runs r) → 0 < ref x.child → d.var r < d.var (ref x.child)
  -- "the runs covering every place once", so "nodes of one edge or more"
  pub cover : (p : ℕ) → p ≤ top_of (d.var r) → holders (d.runs r) p ≡ 1
  -- "a boolean node with its two edges"
  pub pair : first_boolean ≤ d.var r → length (d.runs r) ≡ 2

abbrev pub Ordered : Diagram → Type 0
Ordered d = (r : ℕ) → 0 < r → r ≤ d.size → OrderedAt d r

-- What an id of a diagram says: a terminal's yes, and a node's what the child says on the edge that holds the position of its
-- variable; no for yes, and yes for no, if the id is complemented.
pub data Tells (d : Diagram) (α : Assignment) : ℕ → Bool → Type 0 where
  terminal : {id : ℕ} → ref id ≡ 0 → Tells d α id (signed id true)
  node : {id : ℕ} {b : Bool} (x : Run) → 0 < ref id → Memᴰ x (d.runs (ref id)) → holds x (α (d.var (ref id))) ≡ true → Tells d α x.child b → Tells d α id (signed id b)

-- A path from ref to ref along edges.
pub data Path (d : Diagram) : ℕ → ℕ → Type 0 where
  here : {r : ℕ} → Path d r r
  via : {r s : ℕ} (x : Run) → 0 < r → Memᴰ x (d.runs r) → Path d (ref x.child) s → Path d r s

-- "Only reached nodes and their edges count, terminals don't": a list of the nodes that an id reaches, each once,
abbrev pub Once : List ℕ → Type 0
Once [] = Unit {0}
Once (r ∷ rs) = (Memᴰ r rs → ⊥) × Once rs

pub record Reached (d : Diagram) (id : ℕ) (rs : List ℕ) : Type 0 where
  pub each : (r : ℕ) → Memᴰ r rs ↔ ((0 < r) × Path d (ref id) r)
  pub once : Once rs

-- and the number of their edges.
abbrev pub edges : Diagram → List ℕ → ℕ
edges d [] = 0
edges d (r ∷ rs) = length (d.runs r) + edges d rs

-- A table as a diagram: each piece is a run.
abbrev pub runs : ℕ → ℕ → Pieces ℕ → List Run
runs b t (last c) = record { from = b; upto = t; child = c } ∷ []
runs b t (cut c k e) = record { from = b; upto = k - 1; child = c } ∷ runs k t e

abbrev pub diagram_of : Table → Diagram
diagram_of t = record { size = length t; var = λ r. (at t r).var; runs = λ r. runs 0 (top_of (at t r).var) (at t r).edges }
