-- What narrowing, widening and restriction change, and the nodes that are made of it where the change happens. Assumes nothing.
use mathlib.Core.Path.{◌≡◌, refl, ◌∙◌, ap}
use mathlib.Core.Bool.{Bool, true, false, cond}
use Prim.Native.Nat.{ℕ, ◌≤◌, ◌<◌}
use native.Mathlib.Omega.{arith}
use lib.Dec.{leb}
use Rattle.ranges.specs.Line.{position}
use Rattle.ranges.specs.Ending.{first_place, last_place, empty}
use Rattle.ranges.specs.declared.bounds.Bound.{Bound}
use Rattle.diagram.specs.Pieces.{Pieces, last, cut}
use Rattle.diagram.specs.Shape.{first, Reduced}
use Rattle.diagram.specs.Table.{variables, is_range, top_of, Table}
use Rattle.diagram.proofs.Piecewise.{reduced_down}
use Rattle.algebra.specs.Overlay.{above, merge}
use Rattle.algebra.specs.Making.{settle, create_node}
use Rattle.algebra.specs.Changing.{change, fixed, restrict, cut_above, narrowed, emptied, narrow, widened, widen}
use Rattle.algebra.proofs.Overlays.{merge_reduced}
use Rattle.algebra.proofs.Descending.{Changes}
use Rattle.algebra.proofs.Changed.{narrowed_changes}
use Rattle.algebra.proofs.Emptied.{emptied_changes}

-- one edge makes no node
pub create_last : (t : Table) (v c : ℕ) → create_node t v (last c) ≡ (t, c)
unfolding settle merge
create_last t v c = refl

-- no two neighbours become alike when edges are cut off on the left,
reduced_above : (b t lo : ℕ) (e : Pieces ℕ) → Reduced b t e → Reduced b t (above lo e)
unfolding above
reduced_above b t lo (last c) r = r
reduced_above b t lo (cut c k e) r = go (leb k lo) (reduced_above k t lo e r.3)
  where
    go : (x : Bool) → Reduced k t (above lo e) → Reduced b t (cond x (above lo e) (cut c k e))
    go true i = reduced_down b k t (above lo e) (omega arith) i
    go false i = r

-- or on the right, where the first edge stays,
first_cut_above : (hi : ℕ) (e : Pieces ℕ) → first (cut_above hi e) ≡ first e
unfolding cut_above
first_cut_above hi (last c) = refl
first_cut_above hi (cut c k e) = go (leb k hi)
  where
    go : (x : Bool) → first (cond x (cut c k (cut_above hi e)) (last c)) ≡ c
    go true = refl
    go false = refl

reduced_cut_above : (b t hi : ℕ) (e : Pieces ℕ) → Reduced b t e → Reduced b t (cut_above hi e)
unfolding cut_above
reduced_cut_above b t hi (last c) r = r
reduced_cut_above b t hi (cut c k e) r = go (leb k hi) (reduced_cut_above k t hi e r.3)
  where
    go : (x : Bool) → Reduced k t (cut_above hi e) → Reduced b t (cond x (cut c k (cut_above hi e)) (last c))
    go true i = (r.0, r.1, λ q. r.2 (q ∙ first_cut_above hi e), i)
    go false i = omega (arith, r.0, r.1)

-- and so not by narrowing: what it leaves is merged already
pub narrowed_reduced : (lo hi top : ℕ) (e : Pieces ℕ) → Reduced 0 top e → Reduced 0 top (narrowed lo hi e)
narrowed_reduced lo hi top e r = reduced_cut_above 0 top hi (above lo e) (reduced_above 0 top lo e r)

pub create_narrowed_settles : (t : Table) (v lo hi : ℕ) (e : Pieces ℕ) → Reduced 0 (top_of v) e → create_node t v (narrowed lo hi e) ≡ settle t v (narrowed lo hi e)
create_narrowed_settles t v lo hi e r = ap (settle t v) (merge_reduced 0 (top_of v) (narrowed lo hi e) (narrowed_reduced lo hi (top_of v) e r))

-- narrowing is a change, with empty bounds or others
pub narrowing_changes : (v lo hi : ℕ) (b : Bool) → v < variables → (b ≡ false → lo ≤ hi) → hi ≤ top_of v → Changes v (λ e. cond b (emptied e) (narrowed lo hi e))
narrowing_changes v lo hi true hv l m = emptied_changes v hv
narrowing_changes v lo hi false hv l m = narrowed_changes v lo hi (l refl) m

-- the operations as changes
module _ (t : Table) (v : ℕ) (lower upper : Bound) (id : ℕ) where
  pub narrow_is_change : narrow t v lower upper id ≡ change variables (λ e. cond (empty lower upper) (emptied e) (narrowed (position (first_place lower)) (position (last_place upper)) e)) t v id
  unfolding narrow
  narrow_is_change = go (empty lower upper)
    where
      go : (b : Bool) → cond b (change variables emptied t v id) (change variables (narrowed (position (first_place lower)) (position (last_place upper))) t v id)
          ≡ change variables (λ e. cond b (emptied e) (narrowed (position (first_place lower)) (position (last_place upper)) e)) t v id
      go true = refl
      go false = refl

  pub widen_is_change : empty lower upper ≡ false → widen t v lower upper id ≡ change variables (widened (position (first_place lower)) (position (last_place upper)) (top_of v)) t v id
  unfolding widen
  widen_is_change e = rw e

module _ (t : Table) (v : ℕ) (b : Bool) (id : ℕ) where
  pub restrict_range_unchanged : is_range v ≡ true → restrict t v b id ≡ (t, id)
  unfolding restrict
  restrict_range_unchanged e = rw e

  pub restrict_is_change : is_range v ≡ false → restrict t v b id ≡ change variables (fixed (cond b 0 1)) t v id
  unfolding restrict
  restrict_is_change e = rw e
