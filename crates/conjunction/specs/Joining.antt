-- What the pair walk does on a pair, and what its memo notes. Assumes nothing.
use Rattle.std.specs.Prelude.{◌≡◌, true, ◌&&◌, List, Result, ℕ}
use Rattle.ids.specs.declared.NodeId.{NodeId}
use Rattle.making.specs.declared.room.NoRoom.{NoRoom}
use Rattle.making.specs.declared.used.UsedTable.{UsedTable}
use Rattle.making.specs.Made.{made}
use Rattle.making.specs.Working.{stored}
use Rattle.diagram.specs.Table.{Table, Assignment, value}
use Rattle.diagram.specs.Sound.{Known}
use Rattle.algebra.specs.Conjunction.{conj}
use Rattle.table.specs.Layout.{Store}
use Rattle.table.specs.declared.lent.Used.{Used}
use Rattle.making.specs.Made.{Made}
use Rattle.making.specs.Outcome.{table_of}
use Rattle.memo.specs.Recalling.{Memo}
use Rattle.walks.specs.Walking.{Worked}

-- z says what x and y say together.
pub record Entry (t : Table) (x y z : ℕ) : Type 0 where
  pub left_known : Known t x
  pub right_known : Known t y
  pub known : Known t z
  pub means : (α : Assignment) → value t α z ≡ (value t α x && value t α y)

-- The conjunction of a pair of children.
abbrev pub pairs : ℕ → Table → ℕ × ℕ → Table × ℕ
pairs n t p = conj n t p.0 p.1

-- What conjunction and disjunction leave; beside an answer the memo is true of the table, for an operation that may follow.
pub record Conjoins (h : Used) (want : Table × ℕ) (r : Made) (st : Store) (index memo : List ℕ) (st' : Store) (index' memo' : List ℕ) : Type 0 where
  pub worked : Worked h want r st index memo st' index' memo'
  pub recalled : r.ok ≡ true → Memo (Entry (table_of r.used st')) memo'

-- The same of a sound table as the code is handed it.
abbrev pub Joins : UsedTable → List ℕ → Table × ℕ → Result NodeId NoRoom → UsedTable → List ℕ → Type 0
Joins t memo want r t' memo' = Conjoins t.used want (made r t'.used) (stored t) t.index.now memo (stored t') t'.index.now memo'
