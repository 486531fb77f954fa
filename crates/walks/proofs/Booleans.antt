-- The merge at a boolean variable, step by step. Assumes nothing.
use mathlib.Core.Path.{◌≡◌, sym, ◌∙◌, ap, ap₂, subst}
use mathlib.Core.Bool.{Bool, true, false, not}
use mathlib.Core.List.{List}
use Prim.Native.Nat.{ℕ, suc, ◌+◌, ◌≤◌, ◌<◌}
use native.Mathlib.Omega.{arith}
use lib.ListN.{length}
use Rattle.diagram.specs.Pieces.{Pieces, last, cut}
use Rattle.diagram.specs.Table.{variables, first_boolean, Table}
use Rattle.diagram.specs.Sound.{Child}
use Rattle.diagram.proofs.Continuing.{continues_child}
use Rattle.algebra.specs.Making.{create_node}
use Rattle.views.specs.declared.View.{View}
use Rattle.views.specs.Seeing.{Asked, Inside, child_seen, seen}
use Rattle.views.proofs.Sights.{child_seen_stays, inside_wider, known_used}
use Rattle.table.specs.declared.lent.Used.{Used}
use Rattle.making.specs.Made.{Made}
use Rattle.making.specs.Outcome.{Outcome, table_of}
use Rattle.making.proofs.Kept.{edges_inside}
use Rattle.walks.specs.Walking.{Note, Ready, Stepped, Sides, both}
use Rattle.walks.proofs.Composing.{lent_sound, stepped_continues, stepped_trans, stepped_then_outcome, stepped_equal_want, stepped_fails_onward}
use Rattle.walks.proofs.Walk.{Walk}
use Rattle.walks.proofs.Halves.{half, half_inside, pair_at, pair_kids, first, second, high, low, both_halves, first_before, second_before, answer_kids}
use Rattle.table.specs.Layout.{Store}

-- A child of the sides may be asked about.
pub asked_kid : (h : Used) (st : Store) {v n c : ℕ} → variables < suc v + n → Child (table_of h st) (suc v) c → Asked (table_of h st) h.nodes n c
asked_kid h st {c = c} e k = record { known = known_used st h.nodes c k.0; ahead = omega (arith, k.1) }

-- A view of old edges lies within the slices.
pub inside_all_children : {P : Note} {h : Used} {st : Store} {index memo : List ℕ} → Ready P h st index memo → {w : View} → Inside h.edges w → {n : ℕ} → n ≡ length st.children → Inside n w
inside_all_children {h = h} r {w} i {n} e = inside_wider h.edges n w (omega (arith, edges_inside r.lent)) i

-- The half of a view that was read,
pub half_child_read : (children : List ℕ) (w : View) (low : Bool) {i x : ℕ} → x ≡ child_seen children w i → i ≡ half w.count low → x ≡ child_seen children w (half w.count low)
half_child_read children w low e q = e ∙ ap (child_seen children w) q

-- also where a step was made before it was read.
pub half_child_stays : {P : Note} {h : Used} {want : Table × ℕ} {m : Made} {st : Store} {memo : List ℕ} {st' : Store} {index' memo' : List ℕ} → Stepped P h want m st memo st' index' memo' → (w : View) (low : Bool) {i x : ℕ} → Inside h.edges w → x ≡ child_seen st'.children w i → i ≡ half w.count low → x ≡ child_seen st.children w (half w.count low)
half_child_stays {h = h} {st = st} {st' = st'} d w low k e q = half_child_read st'.children w low e q ∙ child_seen_stays st.children st'.children st.cuts st'.cuts 0 h.edges w k d.outcome.stays.child (half w.count low) (half_inside w.count k.some low)

module _ {v n : ℕ} (W : Walk v n) {h : Used} {st : Store} {index memo : List ℕ} (r : Ready W.note h st index memo) {a b : View} (g : first_boolean ≤ v)
    (s : Sides (table_of h st) h.edges st.children st.cuts v n a b) (back : Bool) where
  abbrev t : Table
  t = table_of h st

  abbrev P : Bool → ℕ × ℕ
  P = pair_at W (lent_sound r.lent) g s

  abbrev x₁ : Table × ℕ
  x₁ = first W (lent_sound r.lent) g s back

  abbrev x₂ : Table × ℕ
  x₂ = second W (lent_sound r.lent) g s back

  abbrev whole : Table × ℕ
  whole = both back W.f t v (seen st.children st.cuts v a 0) (seen st.children st.cuts v b 0)

  pub first_asked : {x y : ℕ} → x ≡ (P back).0 → y ≡ (P back).1 → Asked t h.nodes n x × Asked t h.nodes n y
  first_asked {x} {y} ex ey =
      let k = pair_kids W (lent_sound r.lent) g s back in
      (subst (Asked t h.nodes n) (sym ex) (asked_kid h st s.enough k.0), subst (Asked t h.nodes n) (sym ey) (asked_kid h st s.enough k.1))

  module _ {m : Made} {st' : Store} {index' memo' : List ℕ} {x y : ℕ} (ex : x ≡ (P back).0) (ey : y ≡ (P back).1)
      (d : Stepped W.note h (W.f t (x, y)) m st memo st' index' memo') where
    c : Stepped W.note h x₁ m st memo st' index' memo'
    c = stepped_equal_want d (ap₂ (λ (i j : ℕ). W.f t (i, j)) ex ey)

    pub stepped_first_fails : m.ok ≡ false → Stepped W.note h whole m st memo st' index' memo'
    stepped_first_fails bad = stepped_fails_onward c bad (first_before W (lent_sound r.lent) g s back)

    abbrev t' : Table
    t' = table_of m.used st'

    pub second_asked : {x' y' : ℕ} → x' ≡ (P (not back)).0 → y' ≡ (P (not back)).1 → Asked t' m.used.nodes n x' × Asked t' m.used.nodes n y'
    second_asked {x'} {y'} ex' ey' =
        let k = pair_kids W (lent_sound r.lent) g s (not back) in
        (subst (Asked t' m.used.nodes n) (sym ex') (ask _ k.0), subst (Asked t' m.used.nodes n) (sym ey') (ask _ k.1))
      where
        ask : (i : ℕ) → Child t (suc v) i → Asked t' m.used.nodes n i
        ask i j = asked_kid m.used st' s.enough (continues_child (stepped_continues r c) (suc v) i j)

    module _ (good : m.ok ≡ true) {m' : Made} {st'' : Store} {index'' memo'' : List ℕ} {x' y' : ℕ} (ex' : x' ≡ (P (not back)).0) (ey' : y' ≡ (P (not back)).1)
        (d' : Stepped W.note m.used (W.f t' (x', y')) m' st' memo' st'' index'' memo'') where
      both_steps : Stepped W.note h x₂ m' st memo st'' index'' memo''
      both_steps = stepped_trans r c (stepped_equal_want d' (ap (λ (s : Table). W.f s (x', y')) (c.outcome.table good) ∙ ap₂ (λ (i j : ℕ). W.f x₁.0 (i, j)) ex' ey'))

      pub stepped_second_fails : m'.ok ≡ false → Stepped W.note h whole m' st memo st'' index'' memo''
      stepped_second_fails bad = stepped_fails_onward both_steps bad (second_before W (lent_sound r.lent) g s back)

      -- The two answers as the children of the new node, high and low.
      module _ (good' : m'.ok ≡ true) {i j : ℕ} (ei : i ≡ high W (lent_sound r.lent) g s back m.id.0 m'.id.0) (ej : j ≡ low W (lent_sound r.lent) g s back m.id.0 m'.id.0) where
        abbrev t'' : Table
        t'' = table_of m'.used st''

        is_high : i ≡ high W (lent_sound r.lent) g s back x₁.1 x₂.1
        is_high = ei ∙ ap₂ (high W (lent_sound r.lent) g s back) (c.outcome.id good) (both_steps.outcome.id good')

        is_low : j ≡ low W (lent_sound r.lent) g s back x₁.1 x₂.1
        is_low = ej ∙ ap₂ (low W (lent_sound r.lent) g s back) (c.outcome.id good) (both_steps.outcome.id good')

        pub both_are_children : Child t'' (suc v) i × Child t'' (suc v) j
        both_are_children =
            let k = answer_kids W (lent_sound r.lent) g s back in
            subst (λ (u : Table). Child u (suc v) i × Child u (suc v) j) (sym (both_steps.outcome.table good')) (subst (Child x₂.0 (suc v)) (sym is_high) k.0, subst (Child x₂.0 (suc v)) (sym is_low) k.1)

        wanted : create_node t'' v (cut i 1 (last j)) ≡ whole
        wanted = ap₂ (λ (u : Table) (p : Pieces ℕ). create_node u v p) (both_steps.outcome.table good') (ap₂ (λ (p q : ℕ). cut p 1 (last q)) is_high is_low) ∙ sym (both_halves W (lent_sound r.lent) g s back)

        pub stepped_pair_built : {o : Made} {st''' : Store} {index''' : List ℕ} → Outcome m'.used (create_node t'' v (cut i 1 (last j))) o st'' st''' index''' → Stepped W.note h whole o st memo st''' index''' memo''
        stepped_pair_built o = stepped_equal_want (stepped_then_outcome r both_steps W.grows o) wanted
