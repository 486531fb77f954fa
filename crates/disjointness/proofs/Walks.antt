-- The walk along the edges of two views of a range variable: what its loops keep. Assumes nothing.
use mathlib.Core.Path.{◌≡◌, refl, sym, ◌∙◌, ap, ap₂, subst}
use mathlib.Core.Bool.{Bool, true, false}
use mathlib.Core.Logic.{⊎_elim}
use mathlib.Core.List.{List}
use Rattle.std.proofs.Common.{Option}
use Prim.Native.Nat.{ℕ, ◌+◌, ◌≤◌, ◌<◌}
use native.Mathlib.Omega.{arith}
use lib.ListN.{length}
use lib.IntN.{ℤ}
use Rattle.diagram.specs.Pieces.{Pieces}
use Rattle.diagram.specs.Table.{top_of, Table}
use Rattle.algebra.specs.Disjointness.{disjoint}
use Rattle.table.proofs.Laws.{lt_or_le}
use Rattle.views.specs.Seeing.{Readable, beyond, child_seen, cut_seen, seen, Inside}
use Rattle.views.specs.declared.View.{View}
use Rattle.views.proofs.Sights.{seen_last, seen_cut, seen_each, rising_cut, inside_wider, first_seen}
use Rattle.disjointness.specs.Asking.{whole, apart, Listed, AskedIn, AskedPair, AskedSides, Answers}
use Rattle.disjointness.proofs.Overlaps.{apart_not, apart_left, apart_left_last, apart_right, apart_right_last, apart_both, apart_one}
use Rattle.table.specs.Layout.{Store}

-- the cut of edge j of a view as `cut` gives it
abbrev pub Ends : List ℤ → View → ℕ → ℕ → Type 0
Ends cuts w j k = (j + 1 < w.count → k ≡ cut_seen cuts 0 w j) × (w.count ≤ j + 1 → k ≡ beyond) × (k ≤ beyond)

-- an edge whose cut is below another is no last one
more_edges : (cuts : List ℤ) (w : View) (j k l : ℕ) → Ends cuts w j k → l ≤ beyond → k < l → j + 1 < w.count
more_edges cuts w j k l e h g = ⊎_elim (λ m. m) (λ m. absurd (omega (arith, e.1 m))) (lt_or_le (j + 1) w.count)

-- a child of each side may be asked about, with what the memo has become
pub children_asked : {st : Store} {noted noted' : List ℕ} {v n i j x y : ℕ} {a b : View} → AskedSides st noted v n a b → Listed st noted'
    → i < a.count → j < b.count → x ≡ child_seen st.children a i → y ≡ child_seen st.children b j → AskedPair st noted' n x y
children_asked {st} {v = v} {n} {i} {j} {a = a} {b} s l hi hj ex ey = record {
  listed = l;
  left = subst (AskedIn st n) (sym ex) (seen_each st.children st.cuts v a (AskedIn st n) s.left_asked i hi);
  right = subst (AskedIn st n) (sym ey) (seen_each st.children st.cuts v b (AskedIn st n) s.right_asked j hj);
}

-- a view lies within the cuts as it lies within the children
pub cuts_inside : {st : Store} {u : ℕ} {w : View} → Readable st u → Inside (length st.children) w → Inside (length st.cuts) w
cuts_inside {st} {u} {w} r i = inside_wider (length st.children) (length st.cuts) w (omega (arith, r.cut_each)) i

-- left edge i and right edge j are the next overlap: what is left to ask has the answer of the whole
pub record Walked (n : ℕ) (t : Table) (children : List ℕ) (cuts : List ℤ) (a b : View) (i j : ℕ) : Type 0 where
  pub inside : j < b.count
  pub same : apart n t (seen children cuts 0 a i) (seen children cuts 0 b j) ≡ apart n t (seen children cuts 0 a 0) (seen children cuts 0 b 0)

-- and before left edge i, which may be none
pub record Turned (n : ℕ) (t : Table) (children : List ℕ) (cuts : List ℤ) (a b : View) (i j : ℕ) : Type 0 where
  pub going : i < a.count → Walked n t children cuts a b i j
  pub over : a.count ≤ i → true ≡ apart n t (seen children cuts 0 a 0) (seen children cuts 0 b 0)

-- the right edge may be named in another way
pub turned_at : {n : ℕ} {t : Table} {children : List ℕ} {cuts : List ℤ} {a b : View} {i j z : ℕ} → z ≡ j → Turned n t children cuts a b i j → Turned n t children cuts a b i z
turned_at {n} {t} {children} {cuts} {a} {b} {i} e h = subst (λ (k : ℕ). Turned n t children cuts a b i k) (sym e) h

-- where a loop is, beside a memo that is still true and as long as it was, and a rest that stays where there is a set of words
pub record Beside (st : Store) (noted₀ noted : List ℕ) (rest more : ℕ) (Here : Type 0) : Type 0 where
  pub here : Here
  pub listed : Listed st noted
  pub long : length noted ≡ length noted₀
  pub stays : 8 ≤ length noted → more ≡ rest

-- and where it is after the next walk
pub beside_next : {st : Store} {noted₀ noted noted' z : List ℕ} {rest more more' w : ℕ} {want : Bool} {r : Option Bool} {Here Here' : Type 0} → Beside st noted₀ noted rest more Here → length noted' ≡ length noted → Answers st noted' more more' want r → z ≡ noted' → w ≡ more' → Here' → Beside st noted₀ z rest w Here'
beside_next {st} b e a f g h = record {
  here = h;
  listed = subst (Listed st) (sym f) a.listed;
  long = ap length f ∙ (e ∙ b.long);
  stays = λ k. g ∙ (a.stays (subst (λ (m : List ℕ). 8 ≤ length m) f k) ∙ b.stays (omega (arith, e, ap length f)));
}

module _ {st : Store} {noted : List ℕ} {n : ℕ} {a b : View} (s : AskedSides st noted 0 n a b) where
  abbrev t : Table
  t = whole st

  pub walk_starts : Turned n t st.children st.cuts a b 0 0
  walk_starts = record { going = λ h. record { inside = omega (arith, s.right.some); same = refl }; over = λ h. absurd (omega (arith, s.left.some)) }

  module _ {i j x y : ℕ} {q : Bool} (hi : i < a.count) (w : Walked n t st.children st.cuts a b i j) (ex : x ≡ child_seen st.children a i) (ey : y ≡ child_seen st.children b j) (eq : q ≡ disjoint n t x y) where
    answered : q ≡ disjoint n t (child_seen st.children a i) (child_seen st.children b j)
    answered = eq ∙ ap₂ (λ (c d : ℕ). disjoint n t c d) ex ey

    -- no at this overlap is the answer
    pub walk_no : q ≡ false → false ≡ apart n t (seen st.children st.cuts 0 a 0) (seen st.children st.cuts 0 b 0)
    walk_no h =
        let p = first_seen st.children st.cuts 0 a i hi in
        let r = first_seen st.children st.cuts 0 b j w.inside in
        sym (apart_not n t (seen st.children st.cuts 0 a i) (seen st.children st.cuts 0 b j) (ap₂ (λ (c d : ℕ). disjoint n t c d) p r ∙ (sym answered ∙ h))) ∙ w.same

    module _ {k l : ℕ} (h : q ≡ true) (ek : Ends st.cuts a i k) (el : Ends st.cuts b j l) where
      yes : disjoint n t (child_seen st.children a i) (child_seen st.children b j) ≡ true
      yes = sym answered ∙ h

      -- the left edge ends first
      pub walk_left : k < l → Turned n t st.children st.cuts a b (i + 1) j
      walk_left g = record { going = λ o. record { inside = w.inside; same = sym (⊎_elim cuts_both last_right (lt_or_le (j + 1) b.count)) ∙ w.same }; over = λ o. absurd (omega (arith, m)) }
        where
          m : i + 1 < a.count
          m = more_edges st.cuts a i k l ek el.2 g

          cuts_both : j + 1 < b.count → apart n t (seen st.children st.cuts 0 a i) (seen st.children st.cuts 0 b j) ≡ apart n t (seen st.children st.cuts 0 a (i + 1)) (seen st.children st.cuts 0 b j)
          cuts_both o =
              let e = seen_cut st.children st.cuts 0 a i m in
              let f = seen_cut st.children st.cuts 0 b j o in
              ap₂ (apart n t) e f ∙ (apart_left n t (child_seen st.children a i) (child_seen st.children b j) yes (cut_seen st.cuts 0 a i) (cut_seen st.cuts 0 b j) (seen st.children st.cuts 0 a (i + 1)) (seen st.children st.cuts 0 b (j + 1)) (omega (arith, ek.0 m, el.0 o))
              ∙ ap (apart n t (seen st.children st.cuts 0 a (i + 1))) (sym f))

          last_right : b.count ≤ j + 1 → apart n t (seen st.children st.cuts 0 a i) (seen st.children st.cuts 0 b j) ≡ apart n t (seen st.children st.cuts 0 a (i + 1)) (seen st.children st.cuts 0 b j)
          last_right o =
              let e = seen_cut st.children st.cuts 0 a i m in
              let f = seen_last st.children st.cuts 0 b j (omega (arith, w.inside)) in
              ap₂ (apart n t) e f ∙ (apart_left_last n t (child_seen st.children a i) (child_seen st.children b j) yes (cut_seen st.cuts 0 a i) (seen st.children st.cuts 0 a (i + 1))
              ∙ ap (apart n t (seen st.children st.cuts 0 a (i + 1))) (sym f))

      -- the right edge ends first
      pub walk_right : l < k → Walked n t st.children st.cuts a b i (j + 1)
      walk_right g = record { inside = m; same = sym (⊎_elim cuts_both last_left (lt_or_le (i + 1) a.count)) ∙ w.same }
        where
          m : j + 1 < b.count
          m = more_edges st.cuts b j l k el ek.2 g

          cuts_both : i + 1 < a.count → apart n t (seen st.children st.cuts 0 a i) (seen st.children st.cuts 0 b j) ≡ apart n t (seen st.children st.cuts 0 a i) (seen st.children st.cuts 0 b (j + 1))
          cuts_both o =
              let e = seen_cut st.children st.cuts 0 a i o in
              let f = seen_cut st.children st.cuts 0 b j m in
              ap₂ (apart n t) e f ∙ (apart_right n t (child_seen st.children a i) (child_seen st.children b j) yes (cut_seen st.cuts 0 a i) (cut_seen st.cuts 0 b j) (seen st.children st.cuts 0 a (i + 1)) (seen st.children st.cuts 0 b (j + 1)) (omega (arith, ek.0 o, el.0 m))
              ∙ ap (λ (z : Pieces ℕ). apart n t z (seen st.children st.cuts 0 b (j + 1))) (sym e))

          last_left : a.count ≤ i + 1 → apart n t (seen st.children st.cuts 0 a i) (seen st.children st.cuts 0 b j) ≡ apart n t (seen st.children st.cuts 0 a i) (seen st.children st.cuts 0 b (j + 1))
          last_left o =
              let e = seen_last st.children st.cuts 0 a i (omega (arith, hi)) in
              let f = seen_cut st.children st.cuts 0 b j m in
              ap₂ (apart n t) e f ∙ (apart_right_last n t (child_seen st.children a i) (child_seen st.children b j) yes (cut_seen st.cuts 0 b j) (seen st.children st.cuts 0 b (j + 1))
              ∙ ap (λ (z : Pieces ℕ). apart n t z (seen st.children st.cuts 0 b (j + 1))) (sym e))

      -- both end together, at a cut or as the last ones
      pub walk_both : k ≡ l → Turned n t st.children st.cuts a b (i + 1) (j + 1)
      walk_both g = ⊎_elim (λ m. ⊎_elim (λ o. cuts_both m o) (λ o. absurd (omega (arith, ek.0 m, el.1 o, (rising_cut st.children st.cuts 0 a (top_of 0) s.left_rises i m).1))) (lt_or_le (j + 1) b.count))
          (λ m. ⊎_elim (λ o. absurd (omega (arith, ek.1 m, el.0 o, (rising_cut st.children st.cuts 0 b (top_of 0) s.right_rises j o).1))) (λ o. last_both m o) (lt_or_le (j + 1) b.count)) (lt_or_le (i + 1) a.count)
        where
          cuts_both : i + 1 < a.count → j + 1 < b.count → Turned n t st.children st.cuts a b (i + 1) (j + 1)
          cuts_both m o =
              let e = seen_cut st.children st.cuts 0 a i m in
              let f = seen_cut st.children st.cuts 0 b j o in
              let c : cut_seen st.cuts 0 a i ≡ cut_seen st.cuts 0 b j = sym (ek.0 m) ∙ (g ∙ el.0 o) in
              record {
                going = λ z. record {
                  inside = o;
                  same = sym (ap₂ (apart n t) e f
                      ∙ apart_both n t (child_seen st.children a i) (child_seen st.children b j) yes (cut_seen st.cuts 0 a i) (cut_seen st.cuts 0 b j) (top_of 0) (seen st.children st.cuts 0 a (i + 1)) (seen st.children st.cuts 0 b (j + 1)) c (rising_cut st.children st.cuts 0 b (top_of 0) s.right_rises j o).2)
                      ∙ w.same;
                };
                over = λ z. absurd (omega arith);
              }

          last_both : a.count ≤ i + 1 → b.count ≤ j + 1 → Turned n t st.children st.cuts a b (i + 1) (j + 1)
          last_both m o = record {
            going = λ z. absurd (omega arith);
            over = λ z. sym (ap₂ (apart n t) (seen_last st.children st.cuts 0 a i (omega (arith, hi))) (seen_last st.children st.cuts 0 b j (omega (arith, w.inside)))
                ∙ (apart_one n t (child_seen st.children a i) (child_seen st.children b j) ∙ yes))
                ∙ w.same;
          }
