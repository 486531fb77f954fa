-- A node of two edges. Assumes nothing.
use mathlib.Core.Path.{◌≡◌, sym, ◌∙◌, ap, ap₂, subst}
use mathlib.Core.List.{List}
use Prim.Native.Nat.{ℕ, suc, ◌-◌, ◌≤◌, ◌<◌}
use native.Mathlib.Omega.{arith}
use lib.ListN.{length, get_or, set, replicate, length-set, length-replicate}
use lib.Seq.{get_or-set_same, get_or-set_other}
use borrow.Author.Tests.{le-ltb}
use Rattle.ids.specs.declared.NodeId.{NodeId}
use Rattle.diagram.specs.Pieces.{Pieces, last, cut}
use Rattle.diagram.specs.Shape.{Each, Reduced, run}
use Rattle.diagram.specs.Table.{variables, first_boolean, top_of, Table, most_edges}
use Rattle.diagram.specs.Sound.{Child}
use Rattle.algebra.specs.Making.{settle}
use Rattle.algebra.specs.Overlay.{merge}
use Rattle.algebra.proofs.Overlays.{join_same, join_other, reduced_merge, each_merge}
use Rattle.making.specs.declared.edges.Edge.{Edge}
use Rattle.making.specs.declared.edges.Edges as built
use Rattle.making.specs.Building.{Building, none, child_in, cut_in, pieces_of, two_list, two_of}
use Rattle.making.specs.Outcome.{Buildable, create_pair}

module _ (a b : Edge) where
  abbrev blank : List Edge
  blank = replicate most_edges none

  abbrev one : List Edge
  one = set blank 0 a

  sized : length blank ≡ most_edges
  sized = length-replicate most_edges none

  pub slot_first : get_or (two_of a b).list 0 none ≡ a
  unfolding two_list
  slot_first = get_or-set_other one 1 0 b none (λ q. omega arith) ∙ get_or-set_same blank 0 a none (omega (arith, sized))

  slot_second : get_or (two_of a b).list 1 none ≡ b
  unfolding two_list
  slot_second = get_or-set_same one 1 b none (simp length-set (omega (arith, sized)))

  pub slot_other : (j : ℕ) → j ≡ 1 → get_or (two_of a b).list j none ≡ b
  slot_other j e = rw e slot_second

  two_building : Building (two_of a b)
  unfolding two_list
  two_building = record { size = simp length-set sized; some = omega arith; most = omega arith }

  two_pieces : pieces_of (two_of a b) ≡ cut a.child.0 a.cut (last b.child.0)
  unfolding run
  two_pieces = ap₂ (λ (x y : Edge). cut x.child.0 x.cut (last y.child.0)) slot_first slot_second

  -- They make a node where others with these pieces do.
  pub two_buildable : (t : Table) {v : ℕ} {ps : Pieces ℕ} → ps ≡ cut a.child.0 a.cut (last b.child.0) → v < variables → Reduced 0 (top_of v) ps → Each (Child t (suc v)) ps → Buildable t v (two_of a b)
  two_buildable t {v} e known r k = record { building = two_building; known = known; reduced = subst (Reduced 0 (top_of v)) (e ∙ sym two_pieces) r; kids = subst (Each (Child t (suc v))) (e ∙ sym two_pieces) k }

-- An array of two edges has their pieces.
pub array_of_two : (es : built.Edges) → es.len ≡ 2 → pieces_of es ≡ cut (child_in es 0) (cut_in es 0) (last (child_in es 1))
unfolding run
array_of_two es e = ap (λ (n : ℕ). run (child_in es) (cut_in es) 0 (n - 1)) e

pub array_as_two : (es : built.Edges) → es.len ≡ 2 → pieces_of (two_of (get_or es.list 0 none) (get_or es.list 1 none)) ≡ pieces_of es
array_as_two es e = two_pieces (get_or es.list 0 none) (get_or es.list 1 none) ∙ sym (array_of_two es e)

-- A high edge and a low one of a boolean variable, which has two positions, 0 for yes and 1 for no.
abbrev pub pair_of : NodeId → NodeId → built.Edges
pair_of high low = two_of (record { cut = 1; child = high; spare = 0 }) (record { cut = 0; child = low; spare = 0 })

module _ (high low : NodeId) where
  abbrev sides : Pieces ℕ
  sides = cut high.0 1 (last low.0)

  -- merged, where they differ
  pair_merged : (high.0 ≡ low.0 → ⊥) → merge sides ≡ sides
  unfolding merge
  pair_merged e = join_other high.0 1 (last low.0) e

  -- Over two later children that differ a node can be made,
  pub pair_buildable : (t : Table) {v : ℕ} → first_boolean ≤ v → v < variables → Child t (suc v) high.0 → Child t (suc v) low.0 → (high.0 ≡ low.0 → ⊥) → Buildable t v (pair_of high low)
  pair_buildable t {v} g known p q e = two_buildable _ _ t (pair_merged e) known (reduced_merge 0 (top_of v) sides (rw (le-ltb v first_boolean g) (omega arith, omega arith, omega arith))) (each_merge (Child t (suc v)) sides (p, q))

  -- which is the node of the two,
  pub pair_made : (t : Table) (v : ℕ) → (high.0 ≡ low.0 → ⊥) → settle t v (pieces_of (pair_of high low)) ≡ create_pair t v high.0 low.0
  pair_made t v e = ap (settle t v) (two_pieces _ _ ∙ sym (pair_merged e))

  -- and where they agree the child stands for it.
  pub pair_dropped : (t : Table) (v : ℕ) → high.0 ≡ low.0 → create_pair t v high.0 low.0 ≡ (t, high.0)
  unfolding settle merge
  pair_dropped t v e = ap (settle t v) (join_same high.0 1 (last low.0) e) ∙ ap (λ (c : ℕ). (t, c)) (sym e)
