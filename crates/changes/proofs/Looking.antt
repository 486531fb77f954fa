-- Whether an id tests an earlier variable, as the code tests it, a terminal being an id like others. Assumes nothing.
use mathlib.Core.Path.{◌≡◌, sym, ◌∙◌, ap}
use mathlib.Core.Bool.{Bool, ◌&&◌}
use mathlib.Core.Logic.{⊎_elim}
use Prim.Native.Nat.{ℕ, ◌-◌, ◌≤◌, ◌<◌}
use native.Mathlib.Omega.{arith}
use borrow.Author.Tests.{lt-ltb, le-ltb}
use lib.Dec.{ltb}
use Rattle.ids.specs.Id.{ref, KnownTo}
use Rattle.diagram.specs.Table.{variables, Node, Table, at}
use Rattle.diagram.proofs.Lookup.{at_end}
use Rattle.algebra.specs.Changing.{is_before}
use Rattle.table.specs.Layout.{var_at, Store}
use Rattle.table.specs.Held.{held}
use Rattle.table.proofs.Laws.{lt_or_le}
use Rattle.merging.proofs.Descent.{is_not_before}
use Rattle.views.specs.Seeing.{Readable}
use Rattle.views.proofs.Sights.{variable_is}

pub before_is : {st : Store} {u : ℕ} → Readable st u → (id : ℕ) → KnownTo u id → {v : ℕ} → v < variables → {b : Bool} → b ≡ (ltb 1 id && ltb (var_at st.nodes (ref id - 1)) v) → b ≡ is_before (held st u) v id
unfolding is_before
before_is {st} {u} r id k {v} hv e = e ∙ ⊎_elim end node (lt_or_le id 2)
  where
    t : Table
    t = held st u

    end : id < 2 → (ltb 1 id && ltb (var_at st.nodes (ref id - 1)) v) ≡ is_before t v id
    end l =
        let z : ref id ≡ 0 = omega arith in
        let w = ap (λ (n : ℕ). (at t n).var) z ∙ ap (λ (nd : Node). nd.var) (at_end t) in
        rw (le-ltb 1 id (omega arith)) (sym (is_not_before t v id (omega (arith, w))))

    node : 2 ≤ id → (ltb 1 id && ltb (var_at st.nodes (ref id - 1)) v) ≡ is_before t v id
    node l = rw (lt-ltb 1 id (omega arith)) (ap (λ (w : ℕ). ltb w v) (variable_is r id k l (λ i. var_at st.nodes (ref id - 1))))

-- The same, of the variable as a change has it.
pub tested : {st : Store} {u : ℕ} → Readable st u → (id : ℕ) → KnownTo u id → {v w : ℕ} → w ≡ v → w < variables → {b : Bool} → b ≡ (ltb 1 id && ltb (var_at st.nodes (ref id - 1)) w) → is_before (held st u) v id ≡ b
tested r id k e hv q = sym (rw e at (before_is r id k hv q))
