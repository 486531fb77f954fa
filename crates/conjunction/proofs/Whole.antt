-- Disjunction is conjunction under negation. Assumes nothing.
use mathlib.Core.Path.{◌≡◌, ◌∙◌, ap, refl}
use mathlib.Core.Bool.{false}
use mathlib.Core.List.{List}
use Rattle.table.proofs.Laws.{not_false_and_true}
use Prim.Native.Nat.{ℕ}
use Rattle.ids.specs.Id.{flip}
use Rattle.ids.specs.declared.NodeId.{NodeId}
use Rattle.diagram.specs.Table.{Table}
use Rattle.algebra.specs.Conjunction.{and, or}
use Rattle.table.specs.declared.lent.Used.{Used}
use Rattle.making.specs.Made.{Made}
use Rattle.conjunction.specs.Joining.{Conjoins}
use Rattle.table.specs.Layout.{Store}

pub or_joined : {h : Used} (t : Table) (x y : ℕ) {m : Made} {st : Store} {index memo : List ℕ} {st' : Store} {index' memo' : List ℕ} (i j : ℕ) → i ≡ flip x → j ≡ flip y
    → Conjoins h (and t i j) m st index memo st' index' memo' → (id : NodeId) → id.0 ≡ flip m.id.0
    → Conjoins h (or t x y) (record { ok = m.ok; id = id; used = m.used }) st index memo st' index' memo'
unfolding or
or_joined t x y i j p q c id e =
    let o = c.worked.creates.outcome in
    record {
      worked = record {
        long = c.worked.long;
        framed = c.worked.framed;
        creates = record {
          outcome = record { lent = o.lent; stays = o.stays; table = λ g. o.table g ∙ rw (p, q); id = λ g. e ∙ ap flip (o.id g ∙ rw (p, q)); full = λ g f. o.full g (rw (p, q) f) };
          untouched = c.worked.creates.untouched;
        };
      };
      recalled = c.recalled;
    }

-- The same where there was no room: no id is looked at.
pub or_refused : {h : Used} (t : Table) (x y : ℕ) {id : NodeId} {used : Used} {st : Store} {index memo : List ℕ} {st' : Store} {index' memo' : List ℕ} (i j : ℕ) → i ≡ flip x → j ≡ flip y
    → Conjoins h (and t i j) (record { ok = false; id = id; used = used }) st index memo st' index' memo'
    → Conjoins h (or t x y) (record { ok = false; id = id; used = used }) st index memo st' index' memo'
unfolding or
or_refused t x y i j p q c =
    let o = c.worked.creates.outcome in
    record {
      worked = record {
        long = c.worked.long;
        framed = c.worked.framed;
        creates = record {
          outcome = record { lent = o.lent; stays = o.stays; table = λ g. absurd (not_false_and_true refl g); id = λ g. absurd (not_false_and_true refl g); full = λ g f. o.full g (rw (p, q) f) };
          untouched = c.worked.creates.untouched;
        };
      };
      recalled = c.recalled;
    }
