-- What an operation has made, as its proof carries it: over all assignments, with the variable from which on the answer tests.
-- Assumes nothing.
use mathlib.Core.Path.{◌≡◌, sym, ◌∙◌}
use mathlib.Core.Bool.{Bool}
use Prim.Native.Nat.{ℕ, zero, suc, ◌≤◌, ◌<◌, min}
use native.Mathlib.Omega.{arith}
use lib.ListN.{length}
use Rattle.ids.specs.Id.{ref}
use Rattle.diagram.specs.Pieces.{select}
use Rattle.diagram.specs.Shape.{Rising}
use Rattle.diagram.specs.Table.{top_of, Node, Table, at, Assignment, value, Continues, same}
use Rattle.diagram.specs.Sound.{Child, Sound}
use Rattle.diagram.specs.Reading.{Reading, positions}
use Rattle.diagram.specs.Ordered.{Path, here, diagram_of}
use Rattle.diagram.proofs.Piecewise.{reduced_rising, select_beyond}
use Rattle.diagram.proofs.Facts.{facts_at, kid_at_lem}
use Rattle.diagram.proofs.Continuing.{continues_at}
use Rattle.diagram.proofs.Runs.{child_at, child_runs}
use Rattle.diagram.proofs.Diagrams.{path_trans, child_path, sound_ordered}
use Rattle.algebra.specs.Answering.{Answers}

-- a path from ref to ref in a table, by positions
pub data Reach (t : Table) : ℕ → ℕ → Type 0 where
  stay : {r : ℕ} → Reach t r r
  go_by : {r s : ℕ} (p : ℕ) → 0 < r → Reach t (ref (select (at t r).edges p)) s → Reach t r s

pub reach_trans : {t : Table} {r s u : ℕ} → Reach t r s → Reach t s u → Reach t r u
reach_trans stay y = y
reach_trans (go_by p h x) y = go_by p h (reach_trans x y)

pub reach_continues : {t s : Table} → Sound t → Continues t s → {r u : ℕ} → r ≤ length t → Reach t r u → Reach s r u
reach_continues z g l stay = stay
reach_continues {t} {s} z g l (go_by {r = r} {s = u} p h x) =
    let y = reach_continues z g (kid_at_lem t z r p h l).0 x in
    go_by {r = r} {s = u} p h (rw (continues_at g r l) y)

-- it is a path of the table as a diagram
pub reach_path : (t : Table) → Sound t → {r s : ℕ} → r ≤ length t → Reach t r s → Path (diagram_of t) r s
reach_path t z l stay = here
reach_path t z l (go_by {r = zero} {s = s} p h x) = absurd (omega arith)
reach_path t z l (go_by {r = suc n} {s = s} p h x) = path_trans (rw e at (child_path (diagram_of t) (sound_ordered t z) (suc n) (min p top_n) h l (omega arith))) (reach_path t z (kid_at_lem t z (suc n) p h l).0 x)
  where
    nd : Node
    nd = at t (suc n)

    top_n : ℕ
    top_n = top_of nd.var

    rise : Rising 0 top_n nd.edges
    rise = reduced_rising 0 top_n nd.edges (facts_at t z (suc n) h l).reduced

    e : child_at ((diagram_of t).runs (suc n)) (min p top_n) ≡ select nd.edges p
    e = child_runs 0 top_n nd.edges (min p top_n) rise (omega arith) (omega arith) ∙ sym (select_beyond 0 top_n nd.edges p rise)

-- from t: a table that continues it and an id in it, which tests variables from u on and means m
pub record Made (t : Table) (u : ℕ) (m : Assignment → Bool) (out : Table × ℕ) : Type 0 where
  pub sound : Sound out.0
  pub continues : Continues t out.0
  pub child : Child out.0 u out.1
  pub means : (α : Assignment) → value out.0 α out.1 ≡ m α
  pub used : (r : ℕ) → length t < r → r ≤ length out.0 → Reach out.0 (ref out.1) r

-- the table as it was, and an id of it
pub unchanged : (t : Table) → Sound t → (u id : ℕ) → Child t u id → (m : Assignment → Bool) → ((α : Assignment) → value t α id ≡ m α) → Made t u m (t, id)
unchanged t z u id k m h = record { sound = z; continues = same; child = k; means = h; used = λ r n l. absurd (omega arith) }

pub made_same_meaning : {t : Table} {u : ℕ} {m m' : Assignment → Bool} {out : Table × ℕ} → Made t u m out → ((α : Assignment) → m α ≡ m' α) → Made t u m' out
made_same_meaning x h = record { sound = x.sound; continues = x.continues; child = x.child; means = λ α. x.means α ∙ h α; used = x.used }

pub weaken : (t : Table) (u v : ℕ) (m : Assignment → Bool) (out : Table × ℕ) → u ≤ v → Made t v m out → Made t u m out
weaken t u v m out h x = record { sound = x.sound; continues = x.continues; child = (x.child.0, omega (arith, x.child.1)); means = x.means; used = x.used }

-- and as the promises have it: over document 01's readings
pub made_answers : {t : Table} {u : ℕ} {m : Assignment → Bool} {out : Table × ℕ} → Made t u m out → (M : Reading → Bool) → ((ρ : Reading) → m (positions ρ) ≡ M ρ) → Answers t M out
made_answers {out = out} x M h = record {
  right = record { sound = x.sound; continues = x.continues; known = x.child.0; means = λ ρ. x.means (positions ρ) ∙ h ρ };
  reached = λ r n l. reach_path out.0 x.sound x.child.0 (x.used r n l);
}
