-- The edges of a view below a position are passed, one by one. Assumes nothing.
use mathlib.Core.Path.{◌≡◌, sym, ◌∙◌, ap}
use mathlib.Core.List.{List}
use mathlib.Core.Logic.{⊎_elim}
use Prim.Native.Nat.{ℕ, ◌+◌, ◌≤◌, ◌<◌}
use native.Mathlib.Omega.{arith}
use lib.IntN.{ℤ}
use Rattle.ranges.specs.Line.{top}
use Rattle.diagram.specs.Table.{first_boolean}
use Rattle.algebra.specs.Overlay.{above}
use Rattle.table.proofs.Laws.{lt_or_le}
use Rattle.views.specs.declared.View.{View}
use Rattle.views.specs.Seeing.{beyond, child_seen, cut_seen, seen}
use Rattle.views.proofs.Sights.{seen_last, seen_cut, cut_seen_range}
use Rattle.clipping.proofs.Zones.{above_last, above_next, above_here}

-- the edges before edge i end at the position or before
pub record Passing (cuts : List ℤ) (a : View) (lo i : ℕ) : Type 0 where
  pub inside : i < a.count
  pub same : (children : List ℕ) (v : ℕ) → v < first_boolean → above lo (seen children cuts v a 0) ≡ above lo (seen children cuts v a i)

-- a last edge reaches past each position, so that one which ends at a position or before is no last one
pub not_last : {count k p : ℕ} (i : ℕ) → p ≤ top → (count ≤ i + 1 → k ≡ beyond) → k ≤ p → i + 1 < count
not_last {count} i small end h = ⊎_elim (λ m. m) (λ m. absurd (omega (arith, end m))) (lt_or_le (i + 1) count)

-- k is the cut of edge i
module _ {cuts : List ℤ} {a : View} {lo i k : ℕ} (small : lo ≤ top) (p : Passing cuts a lo i) (real : i + 1 < a.count → k ≡ cut_seen cuts 0 a i) (end : a.count ≤ i + 1 → k ≡ beyond) where
  pub pass_next : k ≤ lo → Passing cuts a lo (i + 1)
  pass_next h =
      let m = not_last i small end h in
      record {
        inside = m;
        same = λ children v r. p.same children v r
            ∙ (ap (above lo) (seen_cut children cuts v a i m) ∙ above_next (child_seen children a i) lo (cut_seen cuts v a i) (seen children cuts v a (i + 1)) (omega (arith, real m, cut_seen_range cuts v a i r)));
      }

  pub pass_done : lo < k → (i < a.count) × ((children : List ℕ) (v : ℕ) → v < first_boolean → above lo (seen children cuts v a 0) ≡ seen children cuts v a i)
  pass_done h = (p.inside, λ children v r. p.same children v r ∙ ⊎_elim (λ m. inner children v r m) (λ m. outer children v m) (lt_or_le (i + 1) a.count))
    where
      inner : (children : List ℕ) (v : ℕ) → v < first_boolean → i + 1 < a.count → above lo (seen children cuts v a i) ≡ seen children cuts v a i
      inner children v r m =
          let e = seen_cut children cuts v a i m in
          ap (above lo) e ∙ (above_here (child_seen children a i) lo (cut_seen cuts v a i) (seen children cuts v a (i + 1)) (omega (arith, real m, cut_seen_range cuts v a i r)) ∙ sym e)

      outer : (children : List ℕ) (v : ℕ) → a.count ≤ i + 1 → above lo (seen children cuts v a i) ≡ seen children cuts v a i
      outer children v m = let e = seen_last children cuts v a i (omega (arith, p.inside)) in ap (above lo) e ∙ (above_last (child_seen children a i) lo ∙ sym e)
