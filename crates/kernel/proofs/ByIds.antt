-- What the proofs of the calls that are given ids and are lent a memo hand their facts to: what is found before any work, and each row.
-- Assumes nothing.
use mathlib.Core.Path.{◌≡◌, refl, sym, ◌∙◌, ap, subst}
use mathlib.Core.Bool.{Bool, true, false, cond}
use mathlib.Core.List.{List}
use Prim.Native.Nat.{ℕ}
use native.Mathlib.Omega.{arith}
use lib.ListN.{length, replicate, length-replicate}
use Rattle.ids.specs.Id.{FALSE}
use Rattle.diagram.specs.Table.{Table}
use Rattle.table.specs.Layout.{room, MemoLengths, Store}
use Rattle.std.specs.Prelude.{Decides}
use Rattle.table.specs.Told.{done, wrong_variable, no_room, number_of, refused_1, refused_3, refused_last}
use Rattle.table.proofs.Laws.{decided_true, decided_false}
use Rattle.table.proofs.Hearing.{check_refuses}
use Rattle.table.specs.declared.lent.Used.{Used}
use Rattle.making.specs.Made.{Made}
use Rattle.making.specs.Outcome.{Lent, table_of}
use Rattle.memo.specs.Recalling.{Cleared}
use Rattle.walks.specs.Walking.{Worked}
use Rattle.kernel.specs.Calls.{Lending, BothKnown}
use Rattle.kernel.specs.Makes.{Makes, made_no}
use Rattle.std.specs.Prelude.{Result, Ok, Err, IsErrAnd}
use Rattle.table.specs.declared.refusal.Refusal.{Refusal}
use Rattle.kernel.proofs.Results.{refusal_not_done}
use Rattle.kernel.specs.Admitting.{Admits, not_lent, admitted, AdmitsTo, AdmitsIds, AdmitsIdsTo, ids_not_long, ids_not_lent, ids_not_known, ids_not_kind, ids_admitted}
use Rattle.kernel.proofs.Handing.{outcome_told}

-- the table is refused
pub ids_refuse_table : {st : Store} {index : List ℕ} {n x y : ℕ} {kind : Bool} → MemoLengths n (room st.nodes) → {k : ℕ} {h : Used} → Admits st index true k h → (k ≡ done → ⊥) → AdmitsIds st index n x y kind k h
ids_refuse_table {kind = kind} long (not_lent b h c f) q = ids_not_lent kind h long c f
ids_refuse_table long (admitted h l) q = absurd (q refl)

pub ids_refuse : {st : Store} {index : List ℕ} {n : ℕ} (x y : ℕ) (kind : Bool) → MemoLengths n (room st.nodes) → (e : Refusal) → AdmitsTo st index true (Err e) → (r : Result Used Refusal) → IsErrAnd r (λ z. z ≡ e) → AdmitsIdsTo st index n x y kind r
ids_refuse x y kind long e a (Ok u) q = absurd q
ids_refuse {st} {index} x y kind long e (h, a) (Err z) q = (h, ids_refuse_table long (subst (λ (w : Refusal). Admits st index true (number_of w) h) (sym q) a) (refusal_not_done z))

module _ {st : Store} {index : List ℕ} {n x y : ℕ} {kind : Bool} (long : MemoLengths n (room st.nodes)) where
  -- it is lent, and the variable decides
  pub ids_refuse_kind : {h : Used} → Lent h st index → BothKnown x y h.nodes → kind ≡ false → AdmitsIds st index n x y kind wrong_variable h
  ids_refuse_kind {h} l b e = rw e (ids_not_kind h long l b)

  pub ids_admit : {h : Used} → Lent h st index → BothKnown x y h.nodes → kind ≡ true → AdmitsIds st index n x y kind done h
  ids_admit {h} l b e = rw e (ids_admitted h long l b)

-- what a call may work on
pub ids_lent : {kind : Type 0} {st : Store} {index : List ℕ} {n x y : ℕ} {b : Bool} {k : ℕ} {h : Used} → Decides b kind → AdmitsIds st index n x y b k h → k ≡ done
    → Lent h st index × MemoLengths n (room st.nodes) × BothKnown x y h.nodes × kind
ids_lent d (ids_not_long b h f) g = absurd (omega arith)
ids_lent d (ids_not_lent b h e c f) g = absurd (f g)
ids_lent d (ids_not_known b h e l f) g = absurd (omega arith)
ids_lent d (ids_not_kind h e l a) g = absurd (omega arith)
ids_lent d (ids_admitted h e l a) g = (l, e, a, decided_true d refl)

-- a memo that was cleared is as long as it was, and every word of it is zero
pub cleared_long : {zeros : List ℕ} (memo : List ℕ) → zeros ≡ replicate (length memo) 0 → length zeros ≡ length memo
cleared_long memo z = ap length z ∙ length-replicate (length memo) 0

pub cleared_lent : {zeros : List ℕ} (memo : List ℕ) {r : ℕ} → zeros ≡ replicate (length memo) 0 → MemoLengths (length memo) r → MemoLengths (length zeros) r
cleared_lent memo {r} z l = subst (λ (n : ℕ). MemoLengths n r) (sym (cleared_long memo z)) l

pub cleared : {zeros : List ℕ} (memo : List ℕ) → zeros ≡ replicate (length memo) 0 → Cleared zeros
cleared memo z = z ∙ ap (λ (i : ℕ). replicate i 0) (sym (cleared_long memo z))

-- A call says in its own words that its ids are known.
module _ (known : ℕ → Type 0) (kind : Type 0) (want : Table → Table × ℕ) (st : Store) (index memo : List ℕ) (x y : ℕ)
    (to : (u : ℕ) → BothKnown x y u → known u) (back : (u : ℕ) → known u → BothKnown x y u) where
  -- rows 1 to 4
  pub ids_refused : {b : Bool} {k n id : ℕ} {h : Used} → Decides b kind → AdmitsIds st index (length memo) x y b k h → (k ≡ done → ⊥) → (n ≡ k) × (id ≡ FALSE) → Makes (Lending st index memo) known kind want st index memo n id st index memo
  ids_refused d (ids_not_long b h f) g q = rw (q.0, q.1) (made_no (refused_1 (λ l. f l.1)))
  ids_refused d (ids_not_lent b h e c f) g q = rw (q.0, q.1) (made_no (check_refuses (λ a. (a, e)) (λ l. l.0) c f))
  ids_refused d (ids_not_known b h e l f) g q = rw (q.0, q.1) (made_no (refused_3 (l.allowed, e) h.nodes l.sound (λ a. f (back h.nodes a))))
  ids_refused d (ids_not_kind h e l a) g q = rw (q.0, q.1) (made_no (refused_last (l.allowed, e) h.nodes l.sound (to h.nodes a) (decided_false d refl)))
  ids_refused d (ids_admitted h e l a) g q = absurd (g refl)

  -- rows 6 and 0, from what the operation leaves: its memo was cleared before it, and is cleared after it
  pub ids_answered : {b : Bool} {k n id : ℕ} {h : Used} {made : Table × ℕ} {r : Made} {st' : Store} {index' zeros memo₁ memo' : List ℕ} → Decides b kind
      → AdmitsIds st index (length memo) x y b k h → k ≡ done → zeros ≡ replicate (length memo) 0 → Worked h made r st index zeros st' index' memo₁ → memo' ≡ replicate (length memo₁) 0
      → made ≡ want (table_of h st) → (n ≡ cond r.ok done no_room) × (id ≡ cond r.ok r.id.0 FALSE) → Makes (Lending st index memo) known kind want st index memo n id st' index' memo'
  ids_answered {h = h} d a g z w f e q =
      let l = ids_lent d a g in
      outcome_told _ known kind want st index memo (l.0.allowed, l.1) l.0 (to h.nodes l.2) l.3 w.creates (f ∙ ap (λ (i : ℕ). replicate i 0) (w.long ∙ cleared_long memo z)) e q
