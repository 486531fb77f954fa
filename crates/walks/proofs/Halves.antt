-- A boolean variable: the high children and the low ones, one after the other. Assumes nothing.
use mathlib.Core.Path.{◌≡◌, sym, ◌∙◌, ap, subst}
use mathlib.Core.Bool.{Bool, true, false, cond, not}
use mathlib.Core.List.{List}
use mathlib.Core.Logic.{⊎_elim}
use Prim.Native.Nat.{ℕ, suc, ◌-◌, ◌≤◌, ◌<◌}
use native.Mathlib.Omega.{arith}
use native.Mathlib.Nat.{eq-or-lt_of_le}
use lib.IntN.{ℤ}
use Rattle.diagram.specs.Pieces.{Pieces, last, cut}
use Rattle.diagram.specs.Shape.{Each, Rising}
use Rattle.diagram.specs.Table.{first_boolean, top_of, Table, Continues, same}
use Rattle.diagram.specs.Sound.{Child, Sound}
use Rattle.diagram.proofs.Continuing.{continues_child, continues_trans}
use Rattle.algebra.specs.Overlay.{overlay}
use Rattle.algebra.specs.Making.{create_node}
use Rattle.algebra.specs.Conjunction.{walk_in, create_over}
use Rattle.algebra.proofs.Made.{Made}
use Rattle.merging.proofs.Conjoined as joined
use Rattle.merging.proofs.Fitting.{create_continues}
use Rattle.views.specs.declared.View.{View}
use Rattle.views.specs.Seeing.{child_seen, seen}
use Rattle.views.proofs.Sights.{seen_count, seen_one, seen_two, seen_each, rising_cut, rising_next, cut_seen_bool}
use Rattle.walks.specs.Walking.{Sides, both}
use Rattle.walks.proofs.Walk.{Walk}

-- A side at a boolean variable has one edge or two: its high child is the first, its low child the last.
module _ (children : List ℕ) (cuts : List ℤ) (v : ℕ) (g : first_boolean ≤ v) (w : View) (some : 1 ≤ w.count) (rise : Rising 0 (top_of v) (seen children cuts v w 0)) where
  two_edges : 1 < w.count → w.count ≡ 2
  two_edges l = ⊎_elim (λ e. sym e) (λ k. absurd (omega (arith, (rising_next children cuts v w _ _ 1 (rising_cut children cuts v w _ rise 0 l).2 k).0, cut_seen_bool cuts v w 0 g, cut_seen_bool cuts v w 1 g))) (eq-or-lt_of_le l)

  pub sides_of_seen : joined.HighLow (seen children cuts v w 0) (child_seen children w 0) (child_seen children w (w.count - 1))
  sides_of_seen = ⊎_elim
      (λ e. subst (λ (x : Pieces ℕ). joined.HighLow x (child_seen children w 0) (child_seen children w (w.count - 1))) (sym (seen_one children cuts v w (sym e)))
      (let a : 0 ≡ w.count - 1 = omega (arith, e) in subst (λ (j : ℕ). joined.HighLow (last (child_seen children w 0)) (child_seen children w 0) (child_seen children w j)) a joined.one))
      (λ l. subst (λ (x : Pieces ℕ). joined.HighLow x (child_seen children w 0) (child_seen children w (w.count - 1))) (sym (seen_two children cuts v w g (two_edges l)))
      (let a : 1 ≡ w.count - 1 = omega (arith, two_edges l) in subst (λ (j : ℕ). joined.HighLow (cut (child_seen children w 0) 1 (last (child_seen children w 1))) (child_seen children w 0) (child_seen children w j)) a joined.two))
      (eq-or-lt_of_le some)

-- The edge that `edge_of` names.
abbrev pub half : ℕ → Bool → ℕ
half count low = cond low (count - 1) 0

pub half_inside : (count : ℕ) → 1 ≤ count → (low : Bool) → half count low < count
half_inside count h true = omega arith
half_inside count h false = omega arith

module _ {v n : ℕ} (W : Walk v n) {t : Table} (z : Sound t) {e : ℕ} {children : List ℕ} {cuts : List ℤ} {a b : View} (g : first_boolean ≤ v) (s : Sides t e children cuts v n a b) where
  abbrev pub pair_at : Bool → ℕ × ℕ
  pair_at low = (child_seen children a (half a.count low), child_seen children b (half b.count low))

  abbrev step : Table → ℕ × ℕ → Table × ℕ
  step = W.f

  over : overlay (seen children cuts v a 0) (seen children cuts v b 0) ≡ cut (pair_at false) 1 (last (pair_at true))
  over = joined.overlay_sides (sides_of_seen children cuts v g a s.left.some s.left_rises) (sides_of_seen children cuts v g b s.right.some s.right_rises)
      (omega (arith, s.tested, seen_count children cuts v a s.left.some, seen_count children cuts v b s.right.some))

  pub pair_kids : (low : Bool) → Child t (suc v) (pair_at low).0 × Child t (suc v) (pair_at low).1
  pair_kids low = (seen_each children cuts v a (Child t (suc v)) s.left_kids (half a.count low) (half_inside a.count s.left.some low), seen_each children cuts v b (Child t (suc v)) s.right_kids (half b.count low) (half_inside b.count s.right.some low))

  abbrev pub first : Bool → Table × ℕ
  first back = step t (pair_at back)

  abbrev pub second : Bool → Table × ℕ
  second back = step (first back).0 (pair_at (not back))

  abbrev pub high : Bool → ℕ → ℕ → ℕ
  high back one two = cond back two one

  abbrev pub low : Bool → ℕ → ℕ → ℕ
  low back one two = cond back one two

  -- Both orders, spelled out.
  pub both_halves : (back : Bool) → both back W.f t v (seen children cuts v a 0) (seen children cuts v b 0)
      ≡ create_node (second back).0 v (cut (high back (first back).1 (second back).1) 1 (last (low back (first back).1 (second back).1)))
  unfolding both
  both_halves false = ap (λ (p : Pieces (ℕ × ℕ)). create_over v (walk_in false step t p)) over ∙ joined.pair_high_first step v t (pair_at false) (pair_at true)
  both_halves true = ap (λ (p : Pieces (ℕ × ℕ)). create_over v (walk_in true step t p)) over ∙ joined.pair_low_first step v t (pair_at false) (pair_at true)

  module _ (back : Bool) where
    made_first : Made t (suc v) (W.m t (pair_at back)) (first back)
    made_first = W.made s.enough t z t z same (pair_at back) (pair_kids back)

    made_second : Made (first back).0 (suc v) (W.m t (pair_at (not back))) (second back)
    made_second = W.made s.enough t z (first back).0 made_first.sound made_first.continues (pair_at (not back)) (pair_kids (not back))

    pub second_before : Continues (second back).0 (both back W.f t v (seen children cuts v a 0) (seen children cuts v b 0)).0
    second_before = subst (λ (w : Table × ℕ). Continues (second back).0 w.0) (sym (both_halves back)) (create_continues (second back).0 v _)

    pub first_before : Continues (first back).0 (both back W.f t v (seen children cuts v a 0) (seen children cuts v b 0)).0
    first_before = continues_trans made_second.continues second_before

    -- The answers are children of the new node, whichever stands first.
    pub answer_kids : Each (Child (second back).0 (suc v)) (cut (high back (first back).1 (second back).1) 1 (last (low back (first back).1 (second back).1)))
    answer_kids = go back (second back).0 (first back).1 (second back).1 (continues_child made_second.continues (suc v) _ made_first.child) made_second.child
      where
        go : (back : Bool) (u : Table) (one two : ℕ) → Child u (suc v) one → Child u (suc v) two → Each (Child u (suc v)) (cut (high back one two) 1 (last (low back one two)))
        go true u one two p q = (q, p)
        go false u one two p q = (p, q)
