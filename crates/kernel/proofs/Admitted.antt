-- What the proofs of the conditions' calls hand their facts to: what is found before any work, and each row. Assumes nothing.
use mathlib.Core.Path.{◌≡◌, refl, sym, subst}
use mathlib.Core.Bool.{Bool, true, false, cond}
use mathlib.Core.List.{List, []}
use Prim.Native.Nat.{ℕ}
use native.Mathlib.Omega.{arith}
use lib.IntN.{ℤ}
use mir.Syntax.{w32}
use mir.Val.{to_z, of_z, SFits}
use mir.ValLaws.{to_z-of_z}
use Rattle.ids.specs.Id.{FALSE}
use Rattle.ranges.specs.declared.bounds.Comparison.{Comparison}
use Rattle.diagram.specs.Table.{Table}
use Rattle.algebra.specs.Conditions.{comparison}
use Rattle.std.specs.Prelude.{Decides}
use Rattle.table.specs.Told.{done, wrong_variable, no_room, number_of, Allowed, Checks, checked_1, checked_2, checked_0, refused_last}
use Rattle.table.proofs.Laws.{decided_true, decided_false}
use Rattle.table.proofs.Hearing.{check_refuses}
use Rattle.table.specs.declared.lent.Used.{Used}
use Rattle.making.specs.Made.{Made}
use Rattle.making.specs.Outcome.{Lent, Creates, table_of}
use Rattle.kernel.specs.Makes.{Makes, made_no}
use Rattle.std.specs.Prelude.{Result, Ok, Err, IsErrAnd}
use Rattle.table.specs.declared.refusal.Refusal.{Refusal}
use Rattle.kernel.specs.Admitting.{Admits, not_lent, not_kind, admitted, AdmitsTo}
use Rattle.kernel.proofs.Results.{refusal_not_done}
use Rattle.kernel.proofs.Handing.{outcome_told}
use Rattle.table.specs.Layout.{Store}

module _ {st : Store} {index : List ℕ} where
  -- the check of a table gives one to work on
  pub check_lends : {k u e : ℕ} → Checks st index k u e → k ≡ done → Lent (record { nodes = u; edges = e }) st index
  check_lends (checked_1 f) q = absurd (omega arith)
  check_lends (checked_2 a f) q = absurd (omega arith)
  check_lends (checked_0 a u s) q = record { allowed = a; sound = s; edges = refl }

  pub admits_not : {kind : Bool} {k u e : ℕ} → Checks st index k u e → k ≡ done → kind ≡ false → Admits st index kind wrong_variable (record { nodes = u; edges = e })
  admits_not c q e = rw e (not_kind _ (check_lends c q))

  pub admits_it : {kind : Bool} {k u e : ℕ} → Checks st index k u e → k ≡ done → kind ≡ true → Admits st index kind done (record { nodes = u; edges = e })
  admits_it c q e = rw e (admitted _ (check_lends c q))

  -- what a condition may work on
  pub admitted_lent : {kind : Type 0} {b : Bool} {k : ℕ} {h : Used} → Decides b kind → Admits st index b k h → k ≡ done → Lent h st index × kind
  admitted_lent d (not_lent b h c n) q = absurd (n q)
  admitted_lent d (not_kind h l) q = absurd (omega arith)
  admitted_lent d (admitted h l) q = (l, decided_true d refl)

module _ {st : Store} {index : List ℕ} (kind : Bool) where
  -- the answers of `admit`
  pub admit_refuses : (e : Refusal) → Checks st index (number_of e) 0 0 → (r : Result Used Refusal) → IsErrAnd r (λ y. y ≡ e) → AdmitsTo st index kind r
  admit_refuses e c (Ok u) q = absurd q
  admit_refuses e c (Err y) q = (record { nodes = 0; edges = 0 }, not_lent kind _ (subst (λ (x : Refusal). Checks st index (number_of x) 0 0) (sym q) c) (refusal_not_done y))

module _ (kind : Type 0) (want : Table → Table × ℕ) (st : Store) (index : List ℕ) where
  -- rows 1, 2 and 4
  pub condition_refused : {b : Bool} {k n id : ℕ} {h : Used} → Decides b kind → Admits st index b k h → (k ≡ done → ⊥) → (n ≡ k) × (id ≡ FALSE)
      → Makes (Allowed st index) (λ u. Unit {0}) kind want st index [] n id st index []
  condition_refused d (not_lent b h c f) x q = rw (q.0, q.1) (made_no (check_refuses (λ a. a) (λ a. a) c f))
  condition_refused d (not_kind h l) x q = rw (q.0, q.1) (made_no (refused_last l.allowed h.nodes l.sound tt (decided_false d refl)))
  condition_refused d (admitted h l) x q = absurd (x refl)

  -- rows 6 and 0, from what was made
  module _ {st' : Store} {index' : List ℕ} where
    pub condition_answered : {h : Used} {made : Table × ℕ} {r : Made} {n id : ℕ} → Lent h st index × kind
        → Creates h made r st index st' index' → made ≡ want (table_of h st) → (n ≡ cond r.ok done no_room) × (id ≡ cond r.ok r.id.0 FALSE)
        → Makes (Allowed st index) (λ u. Unit {0}) kind want st index [] n id st' index' []
    condition_answered (l, p) o e q = outcome_told _ _ kind want st index [] l.allowed l tt p o refl e q

-- The code hands a key on as 32 bits.
pub same_comparison : (t : Table) (v : ℕ) (op : Comparison) (key : ℤ) → SFits w32 key → comparison t v op (to_z w32 (of_z w32 key)) ≡ comparison t v op key
same_comparison t v op key f = rw (to_z-of_z w32 key f)
