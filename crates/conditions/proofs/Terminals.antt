-- Edges to the terminals: when they are reduced, they are merged already, and a node can be made of them. Assumes nothing.
use mathlib.Core.Path.{◌≡◌, refl, sym, ◌∙◌, ap, subst}
use mathlib.Core.Bool.{Bool, true, false, cond, true≢false}
use Prim.Native.Nat.{ℕ, suc, ◌≤◌, ◌<◌}
use native.Mathlib.Omega.{arith}
use lib.Dec.{ltb, eqb}
use borrow.Author.Tests.{ltb-true, ltb-false, eqb-false}
use Rattle.diagram.specs.Pieces.{Pieces, last, cut}
use Rattle.diagram.specs.Shape.{first, Each, Reduced}
use Rattle.diagram.specs.Table.{variables, top_of, Table}
use Rattle.diagram.specs.Cofactor.{map}
use Rattle.diagram.specs.Sound.{Child}
use Rattle.diagram.proofs.Cofactors.{reduced_map, each_map}
use Rattle.algebra.specs.Making.{settle, create_node}
use Rattle.algebra.specs.Conditions.{up_to, between, terminal}
use Rattle.algebra.proofs.Overlays.{merge_reduced}
use Rattle.algebra.proofs.Conditioning.{child_terminal, each_any}
use Rattle.making.specs.declared.edges.Edges as built
use Rattle.making.specs.Building.{Building, pieces_of}
use Rattle.making.specs.Outcome.{Buildable}

-- The pieces of a range have no two neighbours alike.
reduced_up_to : (b hi t : ℕ) → b ≤ hi → b ≤ t → Reduced b t (up_to hi t)
unfolding up_to
reduced_up_to b hi t l m = go (ltb hi t) refl
  where
    go : (x : Bool) → ltb hi t ≡ x → Reduced b t (cond x (cut true (suc hi) (last false)) (last true))
    go true e = (omega arith, ltb-true hi t e, (λ q. true≢false q), ltb-true hi t e)
    go false e = m

first_up_to : (hi t : ℕ) → first (up_to hi t) ≡ true
unfolding up_to
first_up_to hi t = go (ltb hi t)
  where
    go : (x : Bool) → first (cond x (cut true (suc hi) (last false)) (last true)) ≡ true
    go true = refl
    go false = refl

pub reduced_between : (lo hi t : ℕ) → lo ≤ t → Reduced 0 t (between lo hi t)
unfolding between
reduced_between lo hi t l = go (ltb hi lo) refl (eqb lo 0) refl
  where
    go : (x : Bool) → ltb hi lo ≡ x → (y : Bool) → eqb lo 0 ≡ y → Reduced 0 t (cond x (last false) (cond y (up_to hi t) (cut false lo (up_to hi t))))
    go true e y f = omega arith
    go false e true f = reduced_up_to 0 hi t (omega arith) (omega arith)
    go false e false f = (omega (arith, eqb-false lo 0 f), l, (λ q. true≢false (sym (q ∙ first_up_to hi t))), reduced_up_to lo hi t (ltb-false hi lo e) l)

terminal_inj : (x y : Bool) → terminal x ≡ terminal y → x ≡ y
terminal_inj true true e = refl
terminal_inj true false e = absurd (omega arith)
terminal_inj false true e = absurd (omega arith)
terminal_inj false false e = refl

-- A node under construction whose edges are terminals: it can be made, and what is made is what the mathematics makes.
module _ (t : Table) (v : ℕ) (hv : v < variables) (es : built.Edges) (b : Building es) (e : Pieces Bool) (same : pieces_of es ≡ map terminal e) (r : Reduced 0 (top_of v) e) where
  reduced : Reduced 0 (top_of v) (map terminal e)
  reduced = reduced_map terminal terminal_inj 0 (top_of v) e r

  pub terminals_buildable : Buildable t v es
  terminals_buildable = record {
    building = b;
    known = hv;
    reduced = subst (Reduced 0 (top_of v)) (sym same) reduced;
    kids = subst (Each (Child t (suc v))) (sym same) (each_map terminal (λ x. Unit {0}) (Child t (suc v)) (λ x u. child_terminal t (suc v) hv x) e (each_any e));
  }

  pub terminals_settle : settle t v (pieces_of es) ≡ create_node t v (map terminal e)
  terminals_settle = ap (settle t v) (same ∙ sym (merge_reduced 0 (top_of v) (map terminal e) reduced))
