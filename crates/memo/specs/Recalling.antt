-- The memo: what is written in it has to be true of the table. Document 01: "The memo is scratch: zeroed at entry, never believed, and an
-- entry may be overwritten". Assumes nothing.
use Rattle.std.specs.Prelude.{◌≡◌, List, ◌⊎◌, ℕ, ◌*◌, ◌/◌, ◌%◌, ◌≤◌, ◌<◌, length, replicate, get_or, set}

-- A word is an entry: from its lowest bits an answer and two ids of 18 bits each, and above them its rank, on which no answer depends.
abbrev pub ids : ℕ
ids = 262144

abbrev pub first_of : ℕ → ℕ
first_of w = w / 68719476736 % 262144

abbrev pub second_of : ℕ → ℕ
second_of w = w / 262144 % 262144

abbrev pub answer_of : ℕ → ℕ
answer_of w = w % 262144

-- The word says that the answer for x and y is z.
pub record Tells (x y z w : ℕ) : Type 0 where
  pub first : first_of w ≡ x
  pub second : second_of w ≡ y
  pub third : answer_of w ≡ z

-- How many sets of eight words are in use, by the head, word 0. It is less than 2^36, and so an entry of no first id.
abbrev pub sets_in : List ℕ → ℕ
sets_in memo = get_or memo 0 0 / 262144

-- The sets in use lie inside the memo, and nothing lies behind them.
pub record Framed (memo : List ℕ) : Type 0 where
  pub within : sets_in memo * 8 ≤ length memo
  pub tail : (i : ℕ) → sets_in memo * 8 ≤ i → get_or memo i 0 ≡ 0

-- Each entry says something true. TRUE, which is 0, is never looked up as the first id: a word without one says nothing.
pub record Memo (P : ℕ → ℕ → ℕ → Type 0) (memo : List ℕ) : Type 0 where
  pub framed : Framed memo
  pub entry : (i : ℕ) → 0 < first_of (get_or memo i 0) → P (first_of (get_or memo i 0)) (second_of (get_or memo i 0)) (answer_of (get_or memo i 0))

-- A memo with no entry: every word of it is zero.
abbrev pub Cleared : List ℕ → Type 0
Cleared memo = memo ≡ replicate (length memo) 0

-- Two ids, and the same two in an order.
pub data Ordered (x y : ℕ) : ℕ → ℕ → Type 0 where
  as_given : Ordered x y x y
  turned : Ordered x y y x

-- A word among those of the memo that has this pair of ids, or 0.
abbrev pub Found : List ℕ → ℕ → ℕ → Type 0
Found memo pair w = (w ≡ 0) ⊎ ((i : ℕ) × (get_or memo i 0 ≡ w) × (w / 262144 % 68719476736 ≡ pair))

-- An entry for x and y has the answer z.
pub record Hit (memo : List ℕ) (x y z : ℕ) : Type 0 where
  pub place : ℕ
  pub tells : Tells x y z (get_or memo place 0)

-- A word is written over one that is not the head, below a limit.
pub record Put (memo : List ℕ) (limit w : ℕ) (memo' : List ℕ) : Type 0 where
  pub place : ℕ
  pub entry : 1 ≤ place
  pub below : place < limit
  pub words : memo' ≡ set memo place w

-- A word that stood in the memo, or a new one, or one that says nothing.
pub data Was (memo : List ℕ) (New : ℕ → Type 0) (w : ℕ) : Type 0 where
  silent : first_of w ≡ 0 → Was memo New w
  stood : (i : ℕ) → get_or memo i 0 ≡ w → Was memo New w
  new : New w → Was memo New w

-- Entries may have moved or gone, and none has come; the head is as it was, and so is what lies behind a limit.
pub record Kept (memo : List ℕ) (limit : ℕ) (memo' : List ℕ) : Type 0 where
  pub long : length memo' ≡ length memo
  pub head : get_or memo' 0 0 ≡ get_or memo 0 0
  pub behind : (i : ℕ) → limit ≤ i → get_or memo' i 0 ≡ get_or memo i 0
  pub word : (i : ℕ) → Was memo (λ w. ⊥) (get_or memo' i 0)

-- The same, with r sets in use now.
pub record Readied (memo : List ℕ) (r : ℕ) (memo' : List ℕ) : Type 0 where
  pub long : length memo' ≡ length memo
  pub some : 1 ≤ r
  pub sets : sets_in memo' ≡ r
  pub framed : Framed memo'
  pub word : (i : ℕ) → Was memo (λ w. ⊥) (get_or memo' i 0)

-- The answer z for x and y is noted: other entries may have moved or gone.
pub record Noted (memo : List ℕ) (x y z : ℕ) (memo' : List ℕ) : Type 0 where
  pub long : length memo' ≡ length memo
  pub framed : Framed memo'
  pub word : (i : ℕ) → Was memo (Tells x y z) (get_or memo' i 0)
