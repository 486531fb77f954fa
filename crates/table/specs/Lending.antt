-- The words of a lent table, as the code is handed them. Assumes nothing.
use Rattle.std.specs.Prelude.{◌≡◌}
use Rattle.table.specs.declared.lent.Table.{Table}
use Rattle.table.specs.declared.lent.TableMut.{TableMut}
use Rattle.table.specs.Layout.{Store, store}

-- Lent for reading,
abbrev pub store_in : Table → Store
store_in t = store t.nodes.now t.children.now t.cuts.now

-- and for writing.
abbrev pub store_of : TableMut → Store
store_of t = store t.nodes.now t.children.now t.cuts.now

-- The same slices of the caller's are lent, whatever they hold: what is written in them stands in the caller's words.
pub record SameSlices (a b : TableMut) : Type 0 where
  pub nodes : b.nodes.ghost_name ≡ a.nodes.ghost_name
  pub children : b.children.ghost_name ≡ a.children.ghost_name
  pub cuts : b.cuts.ghost_name ≡ a.cuts.ghost_name
  pub index : b.index.ghost_name ≡ a.index.ghost_name
