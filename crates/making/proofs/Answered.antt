-- What an answer of the code is as the definitions have it. Assumes nothing.
use mathlib.Core.Path.{◌≡◌, refl}
use mathlib.Core.Bool.{false}
use Rattle.std.specs.Prelude.{Result, Ok, Err, IsErr}
use Rattle.ids.specs.Id.{FALSE}
use Rattle.ids.specs.declared.NodeId.{NodeId}
use Rattle.table.specs.declared.lent.Used.{Used}
use Rattle.making.specs.declared.room.NoRoom.{NoRoom}
use Rattle.making.specs.Made.{made}
use Rattle.table.proofs.Laws.{not_false_and_true}

-- an answer that was handed on by `?`
pub no_room_made : (r : Result NodeId NoRoom) (used : Used) → IsErr r → made r used ≡ record { ok = false; id = record { 0 = FALSE }; used = used }
no_room_made (Err e) used k = refl
no_room_made (Ok id) used k = absurd (not_false_and_true refl k)
