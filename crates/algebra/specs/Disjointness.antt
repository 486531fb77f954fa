-- Disjointness. Document 01, step 6; `is_disjoint` of the source. Assumes nothing.
use Rattle.std.specs.Prelude.{Bool, true, false, ◌&&◌, ◌||◌, ℕ, zero, suc, min, eqb}
use Rattle.ids.specs.Id.{TRUE, FALSE, ref, flip}
use Rattle.diagram.specs.Pieces.{Pieces, last, cut}
use Rattle.diagram.specs.Table.{variables, Table, at}
use Rattle.diagram.specs.Cofactor.{edges_of}
use Rattle.algebra.specs.Overlay.{overlay}

-- "The answer is no at the first overlapping pair of edges whose children aren't disjoint."
unfoldable pub every : {A : Type 0} → (A → Bool) → Pieces A → Bool
every f (last a) = f a
every f (cut a k e) = f a && every f e

-- "FALSE is disjoint with everything, itself included": one is FALSE or they are opposite, yes; one is TRUE or they are equal, no.
unfoldable pub disjoint_step : Bool → Bool → (ℕ × ℕ → Bool) → Pieces (ℕ × ℕ) → Bool
disjoint_step true q f e = true
disjoint_step false true f e = false
disjoint_step false false f e = every f e

unfoldable pub disjoint : ℕ → Table → ℕ → ℕ → Bool
disjoint zero t x y = true
disjoint (suc n) t x y =
    let v = min (at t (ref x)).var (at t (ref y)).var in
    let pairs = overlay (edges_of t v x) (edges_of t v y) in
    disjoint_step (eqb x FALSE || (eqb y FALSE || eqb (flip x) y)) (eqb x TRUE || (eqb y TRUE || eqb x y)) (λ p. disjoint n t p.0 p.1) pairs

abbrev pub is_disjoint : Table → ℕ → ℕ → Bool
is_disjoint t x y = disjoint (suc variables) t x y
