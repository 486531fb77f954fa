-- What the numbers 0 and 6 of a call that may add nodes mean, on the words that are lent. Assumes nothing.
use Rattle.std.specs.Prelude.{◌≡◌, Bool, List, ◌⊎◌, ℕ, ◌≤◌, ◌<◌, length}
use Rattle.ids.specs.Id.{ref, KnownTo}
use Rattle.diagram.specs.Table.{Table, Continues}
use Rattle.diagram.specs.Reading.{Reading, says}
use Rattle.diagram.specs.Ordered.{Path, diagram_of}
use Rattle.table.specs.Layout.{Store}
use Rattle.table.specs.Lent.{SoundLent}
use Rattle.table.specs.Held.{held}
use Rattle.table.specs.Told.{done, no_room}
use Rattle.kernel.specs.Calls.{Call, row}
use Rattle.kernel.specs.Makes.{Leaves}

-- Done: the words before the call and those after it are sound tables; its ids were known and its variable of the kind that is asked; the table
-- after it continues the one before; the id is one of its ids and says under every reading what is asked from the table before; and "every
-- node that a call adds is reached from its answer".
pub record Answered (q : Call) (st : Store) (index : List ℕ) (id : ℕ) (st' : Store) (index' : List ℕ) : Type 0 where
  pub before : ℕ
  pub found : SoundLent st index before
  pub passed : (row q).known before × (row q).kind
  pub after : ℕ
  pub left : SoundLent st' index' after
  pub continues : Continues (held st before) (held st' after)
  pub known : KnownTo after id
  pub means : (m : Reading → Bool) → (row q).asks (held st before) m → (ρ : Reading) → says (held st' after) ρ id ≡ m ρ
  pub reached : (r : ℕ) → before < r → r ≤ after → Path (diagram_of (held st' after)) (ref id) r

-- Some "sound table that continues this one", of u records, "within its room, and the 64 edges a node, holds the answer" m: sound words of the
-- same lengths, with an id that says m.
pub record LentAnswer (m : Reading → Bool) (st : Store) (index : List ℕ) (u : ℕ) : Type 0 where
  pub table : Table
  pub words : Store
  pub links : List ℕ
  pub lent : Leaves table st index words links
  pub continues : Continues (held st u) table
  pub id : ℕ
  pub known : KnownTo (length table) id
  pub means : (ρ : Reading) → says table ρ id ≡ m ρ

-- The number is 0 where there is room for the answer, and 6 where there is none.
abbrev pub DoneOrNoRoom : (room : Type 0) → ℕ → Type 0
DoneOrNoRoom room k = ((k ≡ done) × room) ⊎ ((k ≡ no_room) × (room → ⊥))
