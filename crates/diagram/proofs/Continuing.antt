-- A table that continues another: old nodes stay, and old ids say what they said. Assumes nothing.
use mathlib.Core.Path.{◌≡◌, refl, ◌∙◌}
use Prim.Native.Nat.{ℕ, ◌≤◌}
use native.Mathlib.Omega.{arith}
use lib.ListN.{length}
use Rattle.ids.specs.Id.{ref}
use Rattle.diagram.specs.Pieces.{Pieces}
use Rattle.diagram.specs.Shape.{Each}
use Rattle.diagram.specs.Table.{Table, at, Assignment, value, Continues, same, more}
use Rattle.diagram.specs.Sound.{Known, Child}
use Rattle.diagram.proofs.Lookup.{at_old, value_old}
use Rattle.diagram.proofs.Piecewise.{each_imp}

pub continues_trans : {t s r : Table} → Continues t s → Continues s r → Continues t r
continues_trans g same = g
continues_trans g (more nd h) = more nd (continues_trans g h)

pub continues_length : {t s : Table} → Continues t s → length t ≤ length s
continues_length same = omega arith
continues_length (more nd g) = omega (arith, continues_length g)

pub continues_at : {t s : Table} → Continues t s → (r : ℕ) → r ≤ length t → at s r ≡ at t r
continues_at same r h = refl
continues_at (more {s = s} nd g) r h = at_old nd s r (omega (arith, continues_length g)) ∙ continues_at g r h

pub continues_value : {t s : Table} → Continues t s → (α : Assignment) (id : ℕ) → Known t id → value s α id ≡ value t α id
continues_value same α id h = refl
continues_value (more {s = s} nd g) α id h = value_old nd s α id (omega (arith, continues_length g)) ∙ continues_value g α id h

pub continues_child : {t s : Table} → Continues t s → (u id : ℕ) → Child t u id → Child s u id
continues_child g u id k = (omega (arith, continues_length g, k.0), rw (continues_at g (ref id) k.0) k.1)

pub continues_kids : {t s : Table} → Continues t s → (u : ℕ) (e : Pieces ℕ) → Each (Child t u) e → Each (Child s u) e
continues_kids {t} {s} g u e = each_imp (Child t u) (Child s u) (continues_child g u) e

-- one that is no longer is the same
pub continues_same : {t s : Table} → Continues t s → length s ≤ length t → s ≡ t
continues_same same h = refl
continues_same (more nd g) h = absurd (omega (arith, continues_length g))
