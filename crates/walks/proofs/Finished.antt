-- The whole operation: a walk and its end, and nothing left behind. Assumes nothing.
use mathlib.Core.Path.{◌≡◌, refl, sym, ◌∙◌, ap, subst}
use mathlib.Core.Bool.{Bool, true, false}
use mathlib.Core.List.{List}
use Prim.Native.Nat.{ℕ}
use lib.ListN.{length}
use Rattle.ids.specs.declared.NodeId.{NodeId}
use Rattle.diagram.specs.Table.{Table}
use Rattle.table.specs.Layout.{room, MemoLengths, Store}
use Rattle.table.proofs.Laws.{not_false_and_true}
use Rattle.table.specs.declared.lent.Used.{Used}
use Rattle.making.specs.Made.{Made}
use Rattle.making.specs.Outcome.{Lent, Outcome, Creates, table_of}
use Rattle.making.proofs.Taken.{taken_back_untouched, outcome_when_taken_back}
use Rattle.memo.specs.Recalling.{Framed, Memo, Cleared}
use Rattle.memo.proofs.Recalled.{framed_zeroed, memo_zeroed}
use Rattle.walks.specs.Walking.{Note, Ready, Stepped, Finishes, Worked}
use Rattle.walks.proofs.Composing.{outcome_adds_nothing}

-- A memo of zeros is true of any table.
pub ready_zeroed : {P : Note} {h : Used} {st : Store} {index memo : List ℕ} → Lent h st index → MemoLengths (length memo) (room st.nodes) → Cleared memo → Ready P h st index memo
ready_zeroed {P} {h} {st} {memo = memo} l long e = record { lent = l; long = long; recalled = subst (Memo (P (table_of h st))) (sym e) (memo_zeroed (length memo)) }

module _ {P : Note} {h : Used} {st : Store} {index memo : List ℕ} (l : Lent h st index) {want : Table × ℕ} {m : Made} {st₁ : Store} {index₁ memo₁ : List ℕ} (c : Stepped P h want m st memo st₁ index₁ memo₁)
    {o : Made} {st' : Store} {index' : List ℕ} (e : Finishes h.nodes m st₁ index₁ o st' index') where
  -- A whole operation: a walk, and its end.
  pub worked_when_finished : Worked h want o st index memo st' index' memo₁
  worked_when_finished = record { creates = go m.ok refl; long = c.long; framed = c.recalled.framed }
    where
      go : (b : Bool) → m.ok ≡ b → Creates h want o st index st' index'
      go true good =
          let k = e.kept good in
          record { outcome = rw (k.0, k.1.same, k.1.index_same) c.outcome; untouched = λ q. absurd (not_false_and_true q (ap (λ (x : Made). x.ok) k.0 ∙ good)) }
      go false bad =
          let k = e.taken bad in
          record { outcome = subst (λ (b : Bool). Outcome h want (record { ok = b; id = o.id; used = o.used }) st st' index') (sym k.0) (outcome_when_taken_back l c.outcome.stays k.1 o.id (c.outcome.full bad)); untouched = λ q. taken_back_untouched l c.outcome.stays k.1 }

  -- Beside an answer the memo is true of the table.
  pub recalled_when_finished : o.ok ≡ true → Memo (P (table_of o.used st')) memo₁
  recalled_when_finished good = go m.ok refl
    where
      go : (b : Bool) → m.ok ≡ b → Memo (P (table_of o.used st')) memo₁
      go true q = rw ((e.kept q).0, (e.kept q).1.same) c.recalled
      go false q = absurd (not_false_and_true (e.taken q).0 good)

-- An operation that answers without a node leaves the table and the memo as they were.
pub worked_adds_nothing : {h : Used} {st : Store} {index memo : List ℕ} → Lent h st index → Cleared memo → {want : Table × ℕ} (id : NodeId) → want ≡ (table_of h st, id.0) → Worked h want (record { ok = true; id = id; used = h }) st index memo st index memo
worked_adds_nothing {memo = memo} l k id e = record { creates = record { outcome = outcome_adds_nothing l id e; untouched = λ q. absurd (not_false_and_true q refl) }; long = refl; framed = subst Framed (sym k) (framed_zeroed (length memo)) }
