-- What each call answers, for every input: a case for each row of document 01, "When the kernel is told no", by its number. Assumes
-- nothing.
use Rattle.std.specs.Prelude.{◌≡◌, Bool, false, List, Result, Ok, Err, ℕ, ◌-◌, ◌/◌, ◌%◌, ◌<◌, ◌^◌, eqb, length, replicate, ℤ, pos}
use Rattle.ids.specs.Id.{KnownTo}
use Rattle.ranges.specs.Line.{Place}
use Rattle.diagram.specs.Table.{first_boolean}
use Rattle.diagram.specs.Reading.{Reading, says}
use Rattle.table.specs.Layout.{cut_at, start, Lengths, Store, store}
use Rattle.table.specs.Lent.{SoundLent}
use Rattle.table.specs.Held.{held}
use Rattle.table.specs.declared.lent.Used.{Used}
use Rattle.table.specs.declared.refusal.Refusal.{Refusal}
use Rattle.table.specs.declared.refusal.Refusal.TheVariants.{WrongRoom, NotSound, UnknownId, WrongVariable, BeyondPlaces, NoRoom}

-- The numbers of the table in document 01.
abbrev pub done : ℕ
done = 0

abbrev pub wrong_room : ℕ
wrong_room = 1

abbrev pub not_sound : ℕ
not_sound = 2

abbrev pub unknown_id : ℕ
unknown_id = 3

abbrev pub beyond_places : ℕ
beyond_places = 5

-- The numbers that only the calls which may add nodes give.
abbrev pub wrong_variable : ℕ
wrong_variable = 4

abbrev pub no_room : ℕ
no_room = 6

-- The number of each refusal of the code, and of an answer, which is 0 where the code answers `Ok`.
abbrev pub number_of : Refusal → ℕ
number_of WrongRoom = wrong_room
number_of NotSound = not_sound
number_of UnknownId = unknown_id
number_of WrongVariable = wrong_variable
number_of BeyondPlaces = beyond_places
number_of NoRoom = no_room

abbrev pub number_in : {A : Type 0} → Result A Refusal → ℕ
number_in (Ok x) = done
number_in (Err e) = number_of e

-- What stands beside a refusal: no used node and no used edge, and no.
abbrev pub nodes_in : Result Used Refusal → ℕ
nodes_in (Ok u) = u.nodes
nodes_in (Err e) = 0

abbrev pub edges_in : Result Used Refusal → ℕ
edges_in (Ok u) = u.edges
edges_in (Err e) = 0

abbrev pub yes_in : Result Bool Refusal → Bool
yes_in (Ok b) = b
yes_in (Err e) = false

-- A lent table as the calls get it: its lengths allowed,
abbrev pub Allowed : Store → List ℕ → Type 0
Allowed st index = Lengths (length st.nodes) (length st.children) (length st.cuts) (length index)

-- and sound with no number of records.
abbrev pub Unsound : Store → List ℕ → Type 0
Unsound st index = (u : ℕ) → SoundLent st index u → ⊥

-- The check of a table: its number, and the used counts of a sound one. It changes nothing.
pub data Checks (st : Store) (index : List ℕ) : ℕ → ℕ → ℕ → Type 0 where
  checked_1 : (Allowed st index → ⊥) → Checks st index wrong_room 0 0
  checked_2 : Allowed st index → Unsound st index → Checks st index not_sound 0 0
  checked_0 : Allowed st index → (u : ℕ) → SoundLent st index u → Checks st index done u (start st.nodes u)

-- Making an empty table "in lent room, whatever the room held": every word is zero after it, or every word is as it was.
pub data Freshens (st : Store) (index : List ℕ) : ℕ → Store → List ℕ → Type 0 where
  freshened_1 : (Allowed st index → ⊥) → Freshens st index wrong_room st index
  freshened_0 : Allowed st index
      → Freshens st index done (store (replicate (length st.nodes) 0) (replicate (length st.children) 0) (replicate (length st.cuts) (pos 0))) (replicate (length index) 0)

-- "32 places and 32 booleans": a list of 32 places, and the bits of a number.
abbrev pub Places : List ℤ → Type 0
Places places = (v : ℕ) → v < first_boolean → Place (cut_at places v)

abbrev pub bit : ℕ → ℕ → ℕ
bit w k = w / 2 ^ k % 2

abbrev pub reading_of : (places : List ℤ) → ℕ → Places places → Reading
reading_of places bools ok = record { place = λ v. cut_at places v; holds = λ v. eqb (bit bools (v - first_boolean)) 1; within = ok }

-- The checks before any work, in the order of document 01's table: why a call is refused, by its number. It is given
--   lent   that the lengths are allowed,
--   known  that the ids are known where this many nodes are used,
--   last   the number of its last check, and
--   right  what that check asks.
module _ (lent : Type 0) (known : ℕ → Type 0) (last : ℕ) (right : Type 0) (st : Store) (index : List ℕ) where
  pub data Refuses : ℕ → Type 0 where
    -- "a room or length isn't allowed"
    refused_1 : (lent → ⊥) → Refuses wrong_room
    -- "the table isn't sound"
    refused_2 : lent → Unsound st index → Refuses not_sound
    -- "an id is no terminal and names no used node"
    refused_3 : lent → (u : ℕ) → SoundLent st index u → (known u → ⊥) → Refuses unknown_id
    refused_last : lent → (u : ℕ) → SoundLent st index u → known u → (right → ⊥) → Refuses last

-- A call that answers yes or no and changes nothing: its number, and its answer, which is `answer` where this many nodes are used. Its last
-- check is row 5, "a reading lies beyond the end places". "A yes/no call returns no beside any refusal."
module _ (lent : Type 0) (known : ℕ → Type 0) (right : Type 0) (answer : ℕ → right → Bool) (st : Store) (index : List ℕ) where
  pub data Replies : ℕ → Bool → Type 0 where
    reply_no : {k : ℕ} → Refuses lent known beyond_places right st index k → Replies k false
    reply_0 : lent → (u : ℕ) → SoundLent st index u → known u → (ok : right) → Replies done (answer u ok)

-- Reading an id is lent a table and 32 places.
abbrev pub Hears : Store → List ℕ → List ℤ → ℕ → ℕ → ℕ → Bool → Type 0
Hears st index places bools id =
    Replies (Allowed st index × (length places ≡ first_boolean)) (λ u. KnownTo u id) (Places places) (λ u ok. says (held st u) (reading_of places bools ok) id) st index
