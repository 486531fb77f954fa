-- The tests of variables and of ids decide what they ask. Assumes nothing.
use Rattle.std.specs.Prelude.{Decides, true}
use Rattle.table.proofs.Laws.{holds}

-- a call that asks no kind of variable has nothing to decide
pub asks_none : Decides true (Unit {0})
asks_none = holds tt
