-- What comes of a call that may add nodes, as the code is handed its words. Assumes nothing.
use Rattle.std.specs.Prelude.{List, Result, Ok, Err, ℕ}
use Rattle.ids.specs.Id.{FALSE}
use Rattle.ids.specs.declared.NodeId.{NodeId}
use Rattle.table.specs.declared.lent.TableMut.{TableMut}
use Rattle.table.specs.declared.refusal.Refusal.{Refusal}
use Rattle.table.specs.Lending.{store_of}
use Rattle.table.specs.Told.{number_in}
use Rattle.kernel.specs.Calls.{Call}
use Rattle.kernel.specs.Makes.{Comes}

-- The id of an answer: "id 1", FALSE, beside every refusal.
abbrev pub id_in : Result NodeId Refusal → ℕ
id_in (Ok id) = id.0
id_in (Err e) = FALSE

-- The number and the id of the answer, and every word after it.
abbrev pub Answers : Call → TableMut → List ℕ → Result NodeId Refusal → TableMut → List ℕ → Type 0
Answers q t memo r t' memo' = Comes q (store_of t) t.index.now memo (number_in r) (id_in r) (store_of t') t'.index.now memo'
