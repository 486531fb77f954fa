-- The high and the low children of two views of a boolean variable. Assumes nothing.
use mathlib.Core.Path.{◌≡◌, refl, sym, ◌∙◌, ap₂}
use mathlib.Core.Bool.{Bool, true, false}
use mathlib.Core.Logic.{◌⊎◌, inl, inr, ⊎_elim}
use mathlib.Core.List.{List}
use Prim.Native.Nat.{ℕ, ◌-◌, ◌≤◌}
use native.Mathlib.Omega.{arith}
use Rattle.diagram.specs.Pieces.{Pieces, last}
use Rattle.diagram.specs.Table.{first_boolean, Table}
use Rattle.algebra.specs.Disjointness.{disjoint}
use Rattle.table.proofs.Laws.{lt_or_le}
use Rattle.views.specs.Seeing.{child_seen, seen}
use Rattle.views.specs.declared.View.{View}
use Rattle.views.proofs.Sights.{seen_one, seen_two, first_seen}
use Rattle.disjointness.specs.Asking.{whole, apart, AskedSides}
use Rattle.disjointness.proofs.Overlaps.{apart_not, apart_left_last, apart_right_last, apart_both, apart_one}
use Rattle.table.specs.Layout.{Store}

module _ {st : Store} {noted : List ℕ} {n : ℕ} {a b : View} (s : AskedSides st noted first_boolean n a b) where
  abbrev t : Table
  t = whole st

  abbrev A : Pieces ℕ
  A = seen st.children st.cuts first_boolean a 0

  abbrev B : Pieces ℕ
  B = seen st.children st.cuts first_boolean b 0

  module _ {x y : ℕ} {q : Bool} (ex : x ≡ child_seen st.children a 0) (ey : y ≡ child_seen st.children b 0) (eq : q ≡ disjoint n t x y) where
    high : q ≡ disjoint n t (child_seen st.children a 0) (child_seen st.children b 0)
    high = eq ∙ ap₂ (λ (c d : ℕ). disjoint n t c d) ex ey

    -- no of the high children is the answer
    pub high_no : q ≡ false → false ≡ apart n t A B
    high_no h =
        let p = first_seen st.children st.cuts first_boolean a 0 (omega (arith, s.left.some)) in
        let r = first_seen st.children st.cuts first_boolean b 0 (omega (arith, s.right.some)) in
        sym (apart_not n t A B (ap₂ (λ (c d : ℕ). disjoint n t c d) p r ∙ (sym high ∙ h)))

    -- yes of the high children leaves it to the low ones
    pub high_yes : {w z : ℕ} → q ≡ true → w ≡ child_seen st.children a (a.count - 1) → z ≡ child_seen st.children b (b.count - 1) → disjoint n t w z ≡ apart n t A B
    high_yes {w} {z} h ew ez = ap₂ (λ (c d : ℕ). disjoint n t c d) ew ez ∙ sym (⊎_elim (λ o. ⊎_elim (one_one o) (one_two o) (two_at_most b s.right.some (s.two_edges (omega arith)).1)) (λ o. ⊎_elim (two_one o) (two_two o) (two_at_most b s.right.some (s.two_edges (omega arith)).1)) (two_at_most a s.left.some (s.two_edges (omega arith)).0))
      where
        two_at_most : (v : View) → 1 ≤ v.count → v.count ≤ 2 → (v.count ≡ 1) ⊎ (v.count ≡ 2)
        two_at_most v l m = ⊎_elim (λ o. inl (omega arith)) (λ o. inr (omega arith)) (lt_or_le v.count 2)

        yes : disjoint n t (child_seen st.children a 0) (child_seen st.children b 0) ≡ true
        yes = sym high ∙ h

        low : ℕ → ℕ → Bool
        low i j = disjoint n t (child_seen st.children a i) (child_seen st.children b j)

        at_low : (i j : ℕ) → a.count - 1 ≡ i → b.count - 1 ≡ j → low i j ≡ disjoint n t (child_seen st.children a (a.count - 1)) (child_seen st.children b (b.count - 1))
        at_low i j e f = ap₂ low (sym e) (sym f)

        one_one : a.count ≡ 1 → b.count ≡ 1 → apart n t A B ≡ disjoint n t (child_seen st.children a (a.count - 1)) (child_seen st.children b (b.count - 1))
        one_one o p = ap₂ (apart n t) (seen_one st.children st.cuts first_boolean a o) (seen_one st.children st.cuts first_boolean b p) ∙ (apart_one n t (child_seen st.children a 0) (child_seen st.children b 0) ∙ at_low 0 0 (omega arith) (omega arith))

        one_two : a.count ≡ 1 → b.count ≡ 2 → apart n t A B ≡ disjoint n t (child_seen st.children a (a.count - 1)) (child_seen st.children b (b.count - 1))
        one_two o p = ap₂ (apart n t) (seen_one st.children st.cuts first_boolean a o) (seen_two st.children st.cuts first_boolean b (omega arith) p)
            ∙ (apart_right_last n t (child_seen st.children a 0) (child_seen st.children b 0) yes 1 (last (child_seen st.children b 1)) ∙ (apart_one n t (child_seen st.children a 0) (child_seen st.children b 1) ∙ at_low 0 1 (omega arith) (omega arith)))

        two_one : a.count ≡ 2 → b.count ≡ 1 → apart n t A B ≡ disjoint n t (child_seen st.children a (a.count - 1)) (child_seen st.children b (b.count - 1))
        two_one o p = ap₂ (apart n t) (seen_two st.children st.cuts first_boolean a (omega arith) o) (seen_one st.children st.cuts first_boolean b p)
            ∙ (apart_left_last n t (child_seen st.children a 0) (child_seen st.children b 0) yes 1 (last (child_seen st.children a 1)) ∙ (apart_one n t (child_seen st.children a 1) (child_seen st.children b 0) ∙ at_low 1 0 (omega arith) (omega arith)))

        two_two : a.count ≡ 2 → b.count ≡ 2 → apart n t A B ≡ disjoint n t (child_seen st.children a (a.count - 1)) (child_seen st.children b (b.count - 1))
        two_two o p = ap₂ (apart n t) (seen_two st.children st.cuts first_boolean a (omega arith) o) (seen_two st.children st.cuts first_boolean b (omega arith) p)
            ∙ (apart_both n t (child_seen st.children a 0) (child_seen st.children b 0) yes 1 1 1 (last (child_seen st.children a 1)) (last (child_seen st.children b 1)) refl (omega arith) ∙ (apart_one n t (child_seen st.children a 1) (child_seen st.children b 1) ∙ at_low 1 1 (omega arith) (omega arith)))
