-- What making gives, as the definitions have it: whether there was room, an id, and how much is used now. Assumes nothing.
use Rattle.std.specs.Prelude.{Bool, true, false, Result, Ok, Err}
use Rattle.ids.specs.Id.{FALSE}
use Rattle.ids.specs.declared.NodeId.{NodeId}
use Rattle.table.specs.declared.lent.Used.{Used}
use Rattle.making.specs.declared.room.NoRoom.{NoRoom}

pub record Made : Type 0 where
  pub ok : Bool
  pub id : NodeId
  pub used : Used

-- An answer of the code, and how much of the table it leaves used. Beside "no room" no id is looked at; FALSE stands there.
abbrev pub made : Result NodeId NoRoom → Used → Made
made (Ok id) used = record { ok = true; id = id; used = used }
made (Err e) used = record { ok = false; id = record { 0 = FALSE }; used = used }
