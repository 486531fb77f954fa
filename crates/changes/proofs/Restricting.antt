-- Restriction of a boolean variable: the edge that is chosen at it. Assumes nothing.
use mathlib.Core.Path.{◌≡◌, refl, sym, ◌∙◌, ap, subst}
use mathlib.Core.Bool.{Bool, true, false, cond, not}
use Prim.Native.Nat.{ℕ, ◌-◌, ◌≤◌, ◌<◌}
use native.Mathlib.Omega.{arith}
use native.Mathlib.Decide.{ℕ_discrete}
use Rattle.ids.specs.Id.{ref, KnownTo}
use Rattle.diagram.specs.Pieces.{Pieces, select}
use Rattle.diagram.specs.Shape.{Rising}
use Rattle.diagram.specs.Table.{variables, first_boolean, top_of, Table, at}
use Rattle.diagram.specs.Cofactor.{edges_of}
use Rattle.diagram.proofs.Cofactors.{edge_other}
use Rattle.merging.proofs.Conjoined as joined
use Rattle.merging.proofs.Bottoms.{create_last}
use Rattle.table.specs.Held.{held}
use Rattle.views.specs.declared.View.{View}
use Rattle.views.specs.Seeing.{Readable, Views, child_seen, seen}
use Rattle.views.proofs.Sights.{known_held, views_rising}
use Rattle.walks.proofs.Halves.{half, sides_of_seen}
use Rattle.changes.specs.Changed.{restricting}
use Rattle.table.specs.Layout.{Store}
use Rattle.algebra.specs.Making.{create_node}

-- Of one edge or two, the one at position 0 is the high one, and the one at position 1 the low one.
select_half : {e : Pieces ℕ} {high low : ℕ} → joined.HighLow e high low → (value : Bool) → cond value high low ≡ select e (cond value 0 1)
select_half joined.one true = refl
select_half joined.one false = refl
select_half joined.two true = refl
select_half joined.two false = refl

module _ {st : Store} {u v id : ℕ} {a : View} (r : Readable st u) (k : KnownTo u id) (b : first_boolean ≤ v) (hv : v < variables) (x : Views st u v id a) where
  abbrev t : Table
  t = held st u

  -- The edges at v rise, whether the id tests v or not:
  rises : Rising 0 (top_of v) (seen st.children st.cuts v a 0)
  rises = go (ℕ_discrete (at t (ref id)).var v)
    where
      go : Dec ((at t (ref id)).var ≡ v) → Rising 0 (top_of v) (seen st.children st.cuts v a 0)
      go (yes e) = views_rising st u v id a r hv (known_held st u id k, omega (arith, e)) x
      go (no n) = subst (Rising 0 (top_of v)) (sym (x.edges ∙ edge_other t v id n)) (omega arith)

  -- the child that is read is the one of the value.
  pub chosen_is : (value : Bool) {c i : ℕ} → c ≡ child_seen st.children a i → i ≡ half a.count (not value) → c ≡ select (edges_of t v id) (cond value 0 1)
  chosen_is value e q = e ∙ (ap (child_seen st.children a) q ∙ (go value ∙ (select_half (sides_of_seen st.children st.cuts v b a x.inside.some rises) value ∙ ap (λ (p : Pieces ℕ). select p (cond value 0 1)) x.edges)))
    where
      go : (value : Bool) → child_seen st.children a (half a.count (not value)) ≡ cond value (child_seen st.children a 0) (child_seen st.children a (a.count - 1))
      go true = refl
      go false = refl

-- At the variable, or past it, the child of the value is the answer, and no node is made.
pub chosen_here : (w : Table) (v : ℕ) (value : Bool) (id c : ℕ) → c ≡ select (edges_of w v id) (cond value 0 1) → create_node w v (restricting value (edges_of w v id)) ≡ (w, c)
chosen_here w v value id c p = create_last w v _ ∙ ap (λ (x : ℕ). (w, x)) (sym p)
