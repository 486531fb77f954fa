-- Answers of the code that are handed on by `?`, and what they are as the definitions have it. Assumes nothing.
use mathlib.Core.Path.{◌≡◌, refl, ap}
use native.Mathlib.Omega.{arith}
use Rattle.std.specs.Prelude.{Bool, false, Result, Ok, Err, IsErrAnd}
use Rattle.ids.specs.Id.{FALSE}
use Rattle.ids.specs.declared.NodeId.{NodeId}
use Rattle.table.specs.declared.refusal.Refusal.{Refusal}
use Rattle.table.specs.declared.refusal.Refusal.TheVariants.{WrongRoom, NotSound, UnknownId, WrongVariable, BeyondPlaces, NoRoom}
use Rattle.table.specs.Told.{done, number_of, number_in, yes_in}
use Rattle.kernel.specs.Answering.{id_in}

-- no refusal is 0
pub refusal_not_done : (e : Refusal) → number_of e ≡ done → ⊥
refusal_not_done WrongRoom q = omega arith
refusal_not_done NotSound q = omega arith
refusal_not_done UnknownId q = omega arith
refusal_not_done WrongVariable q = omega arith
refusal_not_done BeyondPlaces q = omega arith
refusal_not_done NoRoom q = omega arith

-- the number of a refusal that is handed on, and what stands beside it
pub same_number : {A : Type 0} (r : Result A Refusal) (e : Refusal) → IsErrAnd r (λ y. y ≡ e) → number_in r ≡ number_of e
same_number (Ok x) e q = absurd q
same_number (Err y) e q = ap number_of q

pub no_id : (r : Result NodeId Refusal) (e : Refusal) → IsErrAnd r (λ y. y ≡ e) → id_in r ≡ FALSE
no_id (Ok x) e q = absurd q
no_id (Err y) e q = refl

pub no_yes : (r : Result Bool Refusal) (e : Refusal) → IsErrAnd r (λ y. y ≡ e) → yes_in r ≡ false
no_yes (Ok x) e q = absurd q
no_yes (Err y) e q = refl
