-- What an operation's result has to be, and when a room can hold one. Document 01, rows 0 and 6 of "When the kernel is told no", and
-- "Every node that a call adds is reached from its answer". Assumes nothing.
use Rattle.std.specs.Prelude.{◌≡◌, Bool, ℕ, ◌≤◌, ◌<◌, length}
use Rattle.ids.specs.Id.{ref}
use Rattle.diagram.specs.Table.{Table, Continues}
use Rattle.diagram.specs.Sound.{Known, Sound}
use Rattle.diagram.specs.Reading.{Reading, says}
use Rattle.diagram.specs.Ordered.{Path, diagram_of}
use Rattle.diagram.specs.Room.{Fits}

-- From the table t, a table and an id that say m, which says of each reading yes or no: the table is sound and continues t.
pub record Right (t : Table) (m : Reading → Bool) (out : Table × ℕ) : Type 0 where
  pub sound : Sound out.0
  pub continues : Continues t out.0
  pub known : Known out.0 out.1
  pub means : (ρ : Reading) → says out.0 ρ out.1 ≡ m ρ

-- And "the table with only the answer's missing nodes added": there is a path from the answer to each added node.
pub record Answers (t : Table) (m : Reading → Bool) (out : Table × ℕ) : Type 0 where
  pub right : Right t m out
  pub reached : (r : ℕ) → length t < r → r ≤ length out.0 → Path (diagram_of out.0) (ref out.1) r

-- Some sound table that continues t, within a room for nodes, a room for edges and the 64 edges a node, holds the answer m: row 6
-- is "given exactly when" there is none.
pub record Answerable (nodes edges : ℕ) (t : Table) (m : Reading → Bool) : Type 0 where
  pub out : Table × ℕ
  pub right : Right t m out
  pub fits : Fits nodes edges out.0
