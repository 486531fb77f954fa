-- What a step down a lent table asks and leaves, whatever the operation. Assumes nothing.
use Rattle.std.specs.Prelude.{◌≡◌, Bool, true, false, List, Result, Ok, Err, ℕ, suc, ◌+◌, ◌<◌, ◌≤◌, ltb, length, ℤ}
use Rattle.diagram.specs.Pieces.{Pieces}
use Rattle.diagram.specs.Shape.{Each, Rising}
use Rattle.diagram.specs.Table.{variables, top_of, Table, most_edges}
use Rattle.diagram.specs.Sound.{Child}
use Rattle.algebra.specs.Overlay.{overlay}
use Rattle.algebra.specs.Conjunction.{walk_in, create_over}
use Rattle.table.specs.Layout.{room, MemoLengths, Store}
use Rattle.table.specs.declared.lent.Used.{Used}
use Rattle.making.specs.Made.{Made}
use Rattle.ids.specs.declared.NodeId.{NodeId}
use Rattle.making.specs.declared.room.NoRoom.{NoRoom}
use Rattle.making.specs.declared.used.UsedTable.{UsedTable}
use Rattle.making.specs.Made.{made}
use Rattle.making.specs.Working.{stored}
use Rattle.walks.specs.declared.steps.Step.{Step}
use Rattle.making.specs.Outcome.{Lent, Outcome, Untouched, Creates, TakenBack, table_of}
use Rattle.views.specs.declared.View.{View}
use Rattle.views.specs.Seeing.{beyond, seen, Inside}
use Rattle.memo.specs.Recalling.{Framed, Memo}

-- What an entry x, y, z of an operation's memo says of a table.
abbrev pub Note : Type 1
Note = Table → ℕ → ℕ → ℕ → Type 0

-- A lent table with its memo.
pub record Ready (P : Note) (h : Used) (st : Store) (index memo : List ℕ) : Type 0 where
  pub lent : Lent h st index
  pub long : MemoLengths (length memo) (room st.nodes)
  pub recalled : Memo (P (table_of h st)) memo

-- The outcome of a step, and that the memo is still true.
pub record Stepped (P : Note) (h : Used) (want : Table × ℕ) (r : Made) (st : Store) (memo : List ℕ) (st' : Store) (index' memo' : List ℕ) : Type 0 where
  pub outcome : Outcome h want r st st' index'
  pub long : length memo' ≡ length memo
  pub recalled : Memo (P (table_of r.used st')) memo'

-- Two sides at variable v, which one of them tests or both do: n is more than the variables ahead of their children.
pub record Sides (t : Table) (e : ℕ) (children : List ℕ) (cuts : List ℤ) (v n : ℕ) (a b : View) : Type 0 where
  pub known : v < variables
  pub enough : variables < suc v + n
  pub tested : 2 < a.count + b.count
  pub left : Inside e a
  pub right : Inside e b
  pub left_rises : Rising 0 (top_of v) (seen children cuts v a 0)
  pub right_rises : Rising 0 (top_of v) (seen children cuts v b 0)
  pub left_kids : Each (Child t (suc v)) (seen children cuts v a 0)
  pub right_kids : Each (Child t (suc v)) (seen children cuts v b 0)

-- The node of variable v over the overlap of two sides, an operation being done on each pair of children, in one of the two orders.
unfoldable pub both : Bool → (Table → ℕ × ℕ → Table × ℕ) → Table → ℕ → Pieces ℕ → Pieces ℕ → Table × ℕ
both back f t v e g = create_over v (walk_in back f t (overlay e g))

-- One overlap of the edge merge, its edge going into a slot: no slot or no room; or the edge up to the nearer of two cuts, whose side
-- goes on, or both, until both are at their last edges. The answer: whether it is well, whether there is more, the slot, the cut, and by
-- how much each side goes on.
pub data Advances (ok : Bool) (slot k l : ℕ) : Bool → Bool → ℕ → ℕ → ℕ → ℕ → Type 0 where
  stopped : (ok ≡ true → most_edges ≤ slot) → Advances ok slot k l false false 0 0 0 0
  left : ok ≡ true → slot < most_edges → k < l → Advances ok slot k l true true slot k 1 0
  right : ok ≡ true → slot < most_edges → l < k → Advances ok slot k l true true slot l 0 1
  level : ok ≡ true → slot < most_edges → k ≡ l → Advances ok slot k l true (ltb k beyond) slot k 1 1

-- Where the code answers a step, or no room: whether it goes on, and the step, or one of zeros.
abbrev pub goes : Result Step NoRoom → Bool
goes (Ok s) = true
goes (Err e) = false

abbrev pub step_in : Result Step NoRoom → Step
step_in (Ok s) = s
step_in (Err e) = record { more = false; slot = 0; cut = 0; left = 0; right = 0 }

-- What is left of what was made: all of it; or, where there was no room, nothing after the first `keep` nodes.
pub record Finishes (keep : ℕ) (m : Made) (st : Store) (index : List ℕ) (r : Made) (st' : Store) (index' : List ℕ) : Type 0 where
  pub kept : m.ok ≡ true → (r ≡ m) × Untouched st index st' index'
  pub taken : m.ok ≡ false → (r.ok ≡ false) × TakenBack keep m.used st r.used st' index'

-- What a whole operation leaves: its outcome, and nothing else where there was no room. The memo keeps its length and its frame; what it
-- holds is the caller's to clear.
pub record Worked (h : Used) (want : Table × ℕ) (r : Made) (st : Store) (index memo : List ℕ) (st' : Store) (index' memo' : List ℕ) : Type 0 where
  pub creates : Creates h want r st index st' index'
  pub long : length memo' ≡ length memo
  pub framed : Framed memo'

-- The same of a sound table as the code is handed it: a memo that is lent with it, a step,
abbrev pub Holds : Note → UsedTable → List ℕ → Type 0
Holds P t memo = Ready P t.used (stored t) t.index.now memo

abbrev pub Steps : Note → UsedTable → List ℕ → Table × ℕ → Result NodeId NoRoom → UsedTable → List ℕ → Type 0
Steps P t memo want r t' memo' = Stepped P t.used want (made r t'.used) (stored t) memo (stored t') t'.index.now memo'

-- and a whole operation.
abbrev pub Works : UsedTable → List ℕ → Table × ℕ → Result NodeId NoRoom → UsedTable → List ℕ → Type 0
Works t memo want r t' memo' = Worked t.used want (made r t'.used) (stored t) t.index.now memo (stored t') t'.index.now memo'
