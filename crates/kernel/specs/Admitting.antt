-- What the calls find before any work. Assumes nothing.
use Rattle.std.specs.Prelude.{◌≡◌, Bool, true, false, List, Result, Ok, Err, ℕ}
use Rattle.table.specs.Layout.{room, MemoLengths, Store}
use Rattle.table.specs.declared.refusal.Refusal.{Refusal}
use Rattle.table.specs.Told.{done, wrong_room, unknown_id, wrong_variable, number_of, Checks}
use Rattle.table.specs.declared.lent.Used.{Used}
use Rattle.making.specs.Outcome.{Lent}
use Rattle.kernel.specs.Calls.{BothKnown}

-- In the order of the checks: a refusal by the check of the table, a variable that is not of the kind that is asked, or a table to work on.
pub data Admits (st : Store) (index : List ℕ) : Bool → ℕ → Used → Type 0 where
  not_lent : (kind : Bool) (h : Used) {k u e : ℕ} → Checks st index k u e → (k ≡ done → ⊥) → Admits st index kind k h
  not_kind : (h : Used) → Lent h st index → Admits st index false wrong_variable h
  admitted : (h : Used) → Lent h st index → Admits st index true done h

-- The same for a call that is given two ids, or one id twice, and is lent a memo of n words: its length is not the one for the room, a refusal
-- by the check of the table, an id that is not known, a variable that is not of the kind that is asked, or a table to work on.
pub data AdmitsIds (st : Store) (index : List ℕ) (n x y : ℕ) : Bool → ℕ → Used → Type 0 where
  ids_not_long : (kind : Bool) (h : Used) → (MemoLengths n (room st.nodes) → ⊥) → AdmitsIds st index n x y kind wrong_room h
  ids_not_lent : (kind : Bool) (h : Used) {k u e : ℕ} → MemoLengths n (room st.nodes) → Checks st index k u e → (k ≡ done → ⊥) → AdmitsIds st index n x y kind k h
  ids_not_known : (kind : Bool) (h : Used) → MemoLengths n (room st.nodes) → Lent h st index → (BothKnown x y h.nodes → ⊥) → AdmitsIds st index n x y kind unknown_id h
  ids_not_kind : (h : Used) → MemoLengths n (room st.nodes) → Lent h st index → BothKnown x y h.nodes → AdmitsIds st index n x y false wrong_variable h
  ids_admitted : (h : Used) → MemoLengths n (room st.nodes) → Lent h st index → BothKnown x y h.nodes → AdmitsIds st index n x y true done h

-- The same of an answer of the code: the table to work on, or a refusal by its number.
abbrev pub AdmitsTo : Store → List ℕ → Bool → Result Used Refusal → Type 0
AdmitsTo st index kind (Ok h) = Admits st index kind done h
AdmitsTo st index kind (Err e) = (h : Used) × Admits st index kind (number_of e) h

abbrev pub AdmitsIdsTo : Store → List ℕ → ℕ → ℕ → ℕ → Bool → Result Used Refusal → Type 0
AdmitsIdsTo st index n x y kind (Ok h) = AdmitsIds st index n x y kind done h
AdmitsIdsTo st index n x y kind (Err e) = (h : Used) × AdmitsIds st index n x y kind (number_of e) h
