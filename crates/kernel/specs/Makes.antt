-- What each call that may add nodes answers and leaves, for every input, and what disjointness answers: a case for each row of document 01,
-- "When the kernel is told no", by its number, in the order of the checks. Assumes nothing.
use Rattle.std.specs.Prelude.{◌≡◌, Bool, List, ℕ, length, replicate}
use Rattle.ids.specs.Id.{FALSE}
use Rattle.diagram.specs.Table.{Table}
use Rattle.diagram.specs.Room.{Fits}
use Rattle.algebra.specs.Disjointness.{is_disjoint}
use Rattle.table.specs.Layout.{room, Store}
use Rattle.table.specs.Lent.{SoundLent}
use Rattle.table.specs.Held.{held}
use Rattle.table.specs.Told.{done, wrong_variable, no_room, Allowed, Refuses, Replies}
use Rattle.kernel.specs.Calls.{Call, row, BothKnown}

-- "The table with only the answer's missing nodes added": in the room that was lent, sound, and holding this table.
pub record Leaves (t : Table) (st : Store) (index : List ℕ) (st' : Store) (index' : List ℕ) : Type 0 where
  pub long : length st'.nodes ≡ length st.nodes
  pub wide : length st'.children ≡ length st.children
  pub deep : length st'.cuts ≡ length st.cuts
  pub indexed : length index' ≡ length index
  pub used : ℕ
  pub sound : SoundLent st' index' used
  pub holds : held st' used ≡ t

-- A call that may add nodes: its number, its id, and every word after it. It is given
--   lent   that the lengths are allowed,
--   known  that the ids are known where this many nodes are used,
--   kind   that the variable is one of the kind that the call asks,
--   want   the table and the id that the operation makes from a table,
-- and the words before it.
module _ (lent : Type 0) (known : ℕ → Type 0) (kind : Type 0) (want : Table → Table × ℕ) (st : Store) (index memo : List ℕ) where
  pub data Makes : ℕ → ℕ → Store → List ℕ → List ℕ → Type 0 where
    -- rows 1 to 4, the last check being "a variable is 64 or more, or of the wrong kind where a kind is asked": "id 1, everything as found"
    made_no : {k : ℕ} → Refuses lent known wrong_variable kind st index k → Makes k FALSE st index memo
    -- what the operation makes does not fit the room: "id 1, table as found, memo all zero"
    made_6 : lent → (u : ℕ) → SoundLent st index u → known u → kind
        → (Fits (room st.nodes) (length st.children) (want (held st u)).0 → ⊥)
        → Makes no_room FALSE st index (replicate (length memo) 0)
    -- "done": the operation's id, and a table that holds what it makes; "memo all zero if one was lent"
    made_0 : lent → (u : ℕ) → SoundLent st index u → known u → kind
        → (st' : Store) (index' : List ℕ) → Leaves (want (held st u)).0 st index st' index'
        → Makes done (want (held st u)).1 st' index' (replicate (length memo) 0)

-- What comes of a call, by its row. A condition's memo is the empty list.
abbrev pub Comes : Call → Store → List ℕ → List ℕ → ℕ → ℕ → Store → List ℕ → List ℕ → Type 0
Comes q st index memo number id st' index' memo' =
    (row q).keys × Makes ((row q).lent st index memo) (row q).known (row q).kind (row q).make st index memo number id st' index' memo'

-- "Disjointness and reading borrow no memo and change nothing." Disjointness is given ids
-- alone: its last check asks nothing, and never fails.
abbrev pub Disjoints : Store → List ℕ → ℕ → ℕ → ℕ → Bool → Type 0
Disjoints st index x y = Replies (Allowed st index) (BothKnown x y) (Unit {0}) (λ u ok. is_disjoint (held st u) x y) st index
