-- What making does to a sound table, as the code is handed it. Assumes nothing.
use Rattle.std.specs.Prelude.{◌≡◌, Result, ℕ}
use Rattle.ids.specs.declared.NodeId.{NodeId}
use Rattle.diagram.specs.Table.{Table}
use Rattle.table.specs.Layout.{Store, store}
use Rattle.making.specs.declared.room.NoRoom.{NoRoom}
use Rattle.making.specs.declared.used.UsedTable.{UsedTable}
use Rattle.making.specs.Made.{made}
use Rattle.making.specs.Outcome.{Lent, Outcome, Creates, TakenBack, table_of}

-- Its words,
abbrev pub stored : UsedTable → Store
stored t = store t.nodes.now t.children.now t.cuts.now

-- and what it holds.
abbrev pub table_in : UsedTable → Table
table_in t = table_of t.used (stored t)

-- A sound lent table, of which as much is used as is said.
abbrev pub Sound : UsedTable → Type 0
Sound t = Lent t.used (stored t) t.index.now

-- The same slices of the caller's, whatever they hold.
pub record SameSlices (a b : UsedTable) : Type 0 where
  pub nodes : b.nodes.ghost_name ≡ a.nodes.ghost_name
  pub children : b.children.ghost_name ≡ a.children.ghost_name
  pub cuts : b.cuts.ghost_name ≡ a.cuts.ghost_name
  pub index : b.index.ghost_name ≡ a.index.ghost_name

-- An id, and the table after it, or that there is no room: the outcome of an operation,
abbrev pub Gives : UsedTable → Table × ℕ → Result NodeId NoRoom → UsedTable → Type 0
Gives t want r t' = Outcome t.used want (made r t'.used) (stored t) (stored t') t'.index.now

-- and of making one node.
abbrev pub MakesNode : UsedTable → Table × ℕ → Result NodeId NoRoom → UsedTable → Type 0
MakesNode t want r t' = Creates t.used want (made r t'.used) (stored t) t.index.now (stored t') t'.index.now

-- Nodes are taken back, down to `keep` of them.
abbrev pub TakesBack : ℕ → UsedTable → UsedTable → Type 0
TakesBack keep t t' = TakenBack keep t.used (stored t) t'.used (stored t') t'.index.now
