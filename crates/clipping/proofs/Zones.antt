-- The zones of a line of edges: below the bounds, inside them, above them. Assumes nothing.
use mathlib.Core.Path.{◌≡◌, refl, sym, ◌∙◌, ap}
use mathlib.Core.Bool.{Bool, true, false, cond}
use mathlib.Core.Logic.{⊎_elim}
use Prim.Native.Nat.{ℕ, suc, ◌≤◌, ◌<◌}
use native.Mathlib.Omega.{arith}
use native.Mathlib.Decide.{ℕ_discrete, dec_lt}
use lib.Dec.{ltb, leb, eqb}
use borrow.Author.Tests.{lt-ltb, le-ltb, le-leb, lt-leb, eq-eqb, ne_eqb}
use Rattle.ids.specs.Id.{FALSE}
use Rattle.diagram.specs.Pieces.{Pieces, last, cut}
use Rattle.diagram.specs.Shape.{first, Rising}
use Rattle.diagram.specs.Cofactor.{map}
use Rattle.algebra.specs.Overlay.{above, overlay, join, merge}
use Rattle.algebra.specs.Conditions.{up_to, between}
use Rattle.algebra.specs.Changing.{keep, widened}
use Rattle.algebra.proofs.Overlays.{rising_above, join_same}
use Rattle.algebra.proofs.Conditioning.{rising_up_to}
use Rattle.algebra.proofs.Commuting.{above_same, overlay_left, overlay_right, overlay_both}
use Rattle.table.proofs.Laws.{lt_or_le}
use Rattle.merging.proofs.Gluing.{first_merge}
use Rattle.merging.proofs.Stepping.{overlay_last_last, overlay_last_cut, overlay_cut_last}

-- from a position on, a piece that ends there or before is left out, and one that reaches past it is the first
pub above_last : {B : Type 0} (b : B) (k : ℕ) → above k (last b) ≡ last b
unfolding above
above_last b k = refl

module _ {B : Type 0} (b : B) (k l : ℕ) (f : Pieces B) where
  pub above_next : l ≤ k → above k (cut b l f) ≡ above k f
  unfolding above
  above_next h = rw (le-leb l k h)

  pub above_here : k < l → above k (cut b l f) ≡ cut b l f
  unfolding above
  above_here h = rw (lt-leb l k h)

-- the edges up to the upper bound, and FALSE above it unless it is the top
unfoldable pub closing : ℕ → ℕ → Pieces ℕ → Pieces ℕ
closing hi top (last c) = cond (ltb hi top) (cut c (suc hi) (last FALSE)) (last c)
closing hi top (cut c k e) = cond (leb k hi) (cut c k (closing hi top e)) (cond (ltb hi top) (cut c (suc hi) (last FALSE)) (last c))

-- FALSE below the lower bound, unless there is nothing below it
unfoldable pub fronted : ℕ → Pieces ℕ → Pieces ℕ
fronted lo r = cond (eqb lo 0) r (cut FALSE lo r)

pub fronted_none : (lo : ℕ) (r : Pieces ℕ) → lo ≡ 0 → fronted lo r ≡ r
unfolding fronted
fronted_none lo r h = rw (eq-eqb lo 0 h)

pub fronted_some : (lo : ℕ) (r : Pieces ℕ) → (lo ≡ 0 → ⊥) → fronted lo r ≡ cut FALSE lo r
unfolding fronted
fronted_some lo r h = rw (ne_eqb lo 0 h)

module _ (hi top c : ℕ) where
  -- an edge that ends within the bounds stays
  pub closing_inner : (k : ℕ) (e : Pieces ℕ) → k ≤ hi → closing hi top (cut c k e) ≡ cut c k (closing hi top e)
  unfolding closing
  closing_inner k e h = rw (le-leb k hi h)

  -- the edge that goes on to the upper bound or past it
  pub closing_over : (k : ℕ) (e : Pieces ℕ) → hi < k → closing hi top (cut c k e) ≡ closing hi top (last c)
  unfolding closing
  closing_over k e h = rw (lt-leb k hi h)

  pub closing_before : hi < top → closing hi top (last c) ≡ cut c (suc hi) (last FALSE)
  unfolding closing
  closing_before h = rw (lt-ltb hi top h)

  pub closing_top : top ≤ hi → closing hi top (last c) ≡ last c
  unfolding closing
  closing_top h = rw (le-ltb hi top h)

-- what goes on to the top is not closed
closing_whole : (b hi top : ℕ) (e : Pieces ℕ) → top ≤ hi → Rising b top e → closing hi top e ≡ e
closing_whole b hi top (last c) h r = closing_top hi top c h
closing_whole b hi top (cut c k e) h r = closing_inner hi top c k e (omega (arith, r.1)) ∙ ap (cut c k) (closing_whole k hi top e h r.2)

first_ending : (hi top c : ℕ) → first (closing hi top (last c)) ≡ c
first_ending hi top c = ⊎_elim (λ h. ap first (closing_before hi top c h)) (λ h. ap first (closing_top hi top c h)) (lt_or_le hi top)

pub first_closing : (hi top : ℕ) (e : Pieces ℕ) → first (closing hi top e) ≡ first e
first_closing hi top (last c) = first_ending hi top c
first_closing hi top (cut c k e) = ⊎_elim (λ h. ap first (closing_over hi top c k e h) ∙ first_ending hi top c) (λ h. ap first (closing_inner hi top c k e h)) (lt_or_le hi k)

-- inside the bounds all is kept, outside nothing
kept_whole : (e : Pieces ℕ) → map keep (overlay e (last true)) ≡ e
unfolding map
kept_whole (last c) = ap (map keep) (overlay_last_last c true)
kept_whole (cut c k e) = ap (map keep) (overlay_cut_last c true k e) ∙ ap (cut c k) (kept_whole e)

abbrev kept : Pieces (ℕ × Bool) → Pieces ℕ
kept x = merge (map keep x)

kept_none : (e : Pieces ℕ) → kept (overlay e (last false)) ≡ last FALSE
unfolding map merge
kept_none (last c) = ap kept (overlay_last_last c false)
kept_none (cut c k e) = ap kept (overlay_cut_last c false k e) ∙ (ap (join FALSE k) (kept_none e) ∙ join_same FALSE k (last FALSE) refl)

-- a first piece inside the bounds, and one outside them
kept_cut : (c k : ℕ) (x : Pieces (ℕ × Bool)) → kept (cut (c, true) k x) ≡ join c k (kept x)
unfolding map merge
kept_cut c k x = refl

dropped_cut : (c k : ℕ) (x : Pieces (ℕ × Bool)) → kept (cut (c, false) k x) ≡ join FALSE k (kept x)
unfolding map merge
dropped_cut c k x = refl

merge_cut : (c k : ℕ) (e : Pieces ℕ) → merge (cut c k e) ≡ join c k (merge e)
unfolding merge
merge_cut c k e = refl

merge_last : (c : ℕ) → merge (last c) ≡ last c
unfolding merge
merge_last c = refl

-- the upper bound
module _ (hi top : ℕ) (h : hi < top) where
  abbrev upper : Pieces Bool
  upper = cut true (suc hi) (last false)

  -- the edge that goes on to the upper bound or past it, before what is left of the others
  closed_off : (c : ℕ) (e : Pieces ℕ) → kept (cut (c, true) (suc hi) (overlay e (last false))) ≡ merge (closing hi top (last c))
  closed_off c e = kept_cut c (suc hi) (overlay e (last false)) ∙ (ap (join c (suc hi)) (kept_none e ∙ sym (merge_last FALSE)) ∙ (sym (merge_cut c (suc hi) (last FALSE)) ∙ sym (ap merge (closing_before hi top c h))))

  inside_bounded : (e : Pieces ℕ) → kept (overlay e upper) ≡ merge (closing hi top e)
  inside_bounded (last c) = ap kept (overlay_last_cut c true (suc hi) (last false)) ∙ closed_off c (last c)
  inside_bounded (cut c k e) = go (dec_lt hi k) (dec_lt (suc hi) k) (inside_bounded e)
    where
      go : Dec (hi < k) → Dec (suc hi < k) → kept (overlay e upper) ≡ merge (closing hi top e) → kept (overlay (cut c k e) upper) ≡ merge (closing hi top (cut c k e))
      go (no n) x rec =
          ap kept (overlay_left c k e true (suc hi) (last false) (omega arith))
          ∙ (kept_cut c k (overlay e upper) ∙ (ap (join c k) rec ∙ (sym (merge_cut c k (closing hi top e)) ∙ sym (ap merge (closing_inner hi top c k e (omega arith))))))
      go (yes y) (yes x) rec =
          ap kept (overlay_right c k e true (suc hi) (last false) x) ∙ (closed_off c (cut c k e) ∙ sym (ap merge (closing_over hi top c k e y)))
      go (yes y) (no x) rec =
          let z : suc hi ≡ k = omega arith in
          ap kept (overlay_both c k e true (suc hi) (last false) k z (omega arith)) ∙ (ap (λ (l : ℕ). kept (cut (c, true) l (overlay e (last false)))) (sym z) ∙ (closed_off c e ∙ sym (ap merge (closing_over hi top c k e y))))

inside_closing : (b hi top : ℕ) (e : Pieces ℕ) → Rising b top e → kept (overlay e (up_to hi top)) ≡ merge (closing hi top e)
unfolding up_to
inside_closing b hi top e r = ⊎_elim (λ h. rw (lt-ltb hi top h) (inside_bounded hi top h e)) (λ h. rw (le-ltb hi top h) (ap merge (kept_whole e ∙ sym (closing_whole b hi top e h r)))) (lt_or_le hi top)

-- the lower bound: several pieces of FALSE below it are merged into one
module _ (lo top : ℕ) (f : Pieces Bool) (q : Rising lo top f) where
  inside_fronted : (b : ℕ) (e : Pieces ℕ) → Rising b top e → kept (overlay e (cut false lo f)) ≡ merge (cut FALSE lo (map keep (overlay (above lo e) f)))
  inside_fronted b (last c) r = ap kept (overlay_last_cut c false lo f) ∙ (dropped_cut c lo (overlay (last c) f) ∙ (ap (λ (x : Pieces ℕ). join FALSE lo (kept (overlay x f))) (sym (above_last c lo)) ∙ sym (merge_cut FALSE lo _)))
  inside_fronted b (cut c k e) r = go (dec_lt lo k) (dec_lt k lo) (inside_fronted k e r.2)
    where
      -- the first piece that reaches past the bound begins what is left
      begins : (x : Pieces ℕ) → above lo (cut c k e) ≡ x → kept (cut (c, false) lo (overlay x f)) ≡ merge (cut FALSE lo (map keep (overlay (above lo (cut c k e)) f)))
      begins x a = dropped_cut c lo (overlay x f) ∙ (ap (λ (y : Pieces ℕ). join FALSE lo (kept (overlay y f))) (sym a) ∙ sym (merge_cut FALSE lo _))

      go : Dec (lo < k) → Dec (k < lo) → kept (overlay e (cut false lo f)) ≡ merge (cut FALSE lo (map keep (overlay (above lo e) f))) → kept (overlay (cut c k e) (cut false lo f)) ≡ merge (cut FALSE lo (map keep (overlay (above lo (cut c k e)) f)))
      go (yes y) x rec = ap kept (overlay_right c k e false lo f y) ∙ begins (cut c k e) (above_here c lo k e y)
      go (no n) (yes x) rec =
          ap kept (overlay_left c k e false lo f x)
          ∙ (dropped_cut c k (overlay e (cut false lo f)) ∙ (ap (join FALSE k) rec ∙ (join_same FALSE k _ (sym (first_merge _)) ∙ ap (λ (y : Pieces ℕ). merge (cut FALSE lo (map keep (overlay y f)))) (sym (above_next c lo k e (omega arith))))))
      go (no n) (no x) rec =
          let z : lo ≡ k = omega arith in
          ap kept (overlay_both c k e false lo f top z (rw z at q))
          ∙ (ap (λ (l : ℕ). kept (cut (c, false) l (overlay e f))) (sym z) ∙ begins e (above_next c lo k e (omega arith) ∙ ap (λ (l : ℕ). above l e) z ∙ above_same k top e r.2))

-- Widened edges, merged: FALSE below the bounds, the old edges inside them, FALSE above them.
pub widened_zones : (lo hi top : ℕ) (e : Pieces ℕ) → lo ≤ hi → hi ≤ top → Rising 0 top e → merge (widened lo hi top e) ≡ merge (fronted lo (closing hi top (above lo e)))
unfolding between
widened_zones lo hi top e l h r = go (ℕ_discrete lo 0)
  where
    go : Dec (lo ≡ 0) → kept (overlay e (cond (ltb hi lo) (last false) (cond (eqb lo 0) (up_to hi top) (cut false lo (up_to hi top))))) ≡ merge (fronted lo (closing hi top (above lo e)))
    go (yes z) = rw (le-ltb hi lo l, eq-eqb lo 0 z) (inside_closing 0 hi top e r ∙ ap (λ (x : Pieces ℕ). merge (closing hi top x)) (sym (ap (λ (k : ℕ). above k e) z ∙ above_same 0 top e r)) ∙ sym (ap merge (fronted_none lo (closing hi top (above lo e)) z)))
    go (no n) = rw (le-ltb hi lo l, ne_eqb lo 0 n)
        (inside_fronted lo top (up_to hi top) (rising_up_to lo hi top l (omega arith)) 0 e r
        ∙ (merge_cut FALSE lo _ ∙ (ap (join FALSE lo) (inside_closing lo hi top (above lo e) (rising_above 0 top lo e (omega arith) r)) ∙ (sym (merge_cut FALSE lo _) ∙ sym (ap merge (fronted_some lo (closing hi top (above lo e)) n))))))
