-- Conjunction and disjunction. Document 01, step 5; `and`, `or`, `apply`, `map` of the source. Assumes nothing.
use Rattle.std.specs.Prelude.{Bool, true, false, not, ◌&&◌, ◌||◌, ℕ, zero, suc, min, eqb}
use Rattle.std.proofs.Math.Option.{Option, none, some}
use Rattle.ids.specs.Id.{TRUE, FALSE, ref, flip}
use Rattle.diagram.specs.Pieces.{Pieces, last, cut}
use Rattle.diagram.specs.Table.{variables, is_range, Table, at}
use Rattle.diagram.specs.Cofactor.{edges_of}
use Rattle.algebra.specs.Overlay.{overlay}
use Rattle.algebra.specs.Making.{create_node}

-- An operation on each value of some pieces, the table handed on from one to the next: "ranges left to right",
module _ {A : Type 0} (f : Table → A → Table × ℕ) where
  unfoldable pub walk : Table → Pieces A → Table × Pieces ℕ
  walk t (last a) = let x = f t a in (x.0, last x.1)
  walk t (cut a k e) =
      let x = f t a in
      let y = walk x.0 e in
      (y.0, cut x.1 k y.1)

  -- or from the right, "low then high": the high edge stands first
  unfoldable pub walk_back : Table → Pieces A → Table × Pieces ℕ
  walk_back t (last a) = let x = f t a in (x.0, last x.1)
  walk_back t (cut a k e) =
      let x = walk_back t e in
      let y = f x.0 a in
      (y.0, cut y.1 k x.1)

unfoldable pub walk_in : Bool → {A : Type 0} → (Table → A → Table × ℕ) → Table → Pieces A → Table × Pieces ℕ
walk_in true f t e = walk_back f t e
walk_in false f t e = walk f t e

-- The node of a variable over edges that an operation gave.
abbrev pub create_over : ℕ → Table × Pieces ℕ → Table × ℕ
create_over v x = create_node x.0 v x.1

-- The source's opening tests, in its order: x is TRUE, y is TRUE, they are equal, one is FALSE or they are opposite.
abbrev pub pick : Bool → Bool → Bool → Bool → ℕ → ℕ → Option ℕ
pick true p q r x y = some y
pick false true q r x y = some x
pick false false true r x y = some x
pick false false false true x y = some FALSE
pick false false false false x y = none

unfoldable pub opening : ℕ → ℕ → Option ℕ
opening x y = pick (eqb x TRUE) (eqb y TRUE) (eqb x y) (eqb x FALSE || (eqb y FALSE || eqb (flip x) y)) x y

-- The pairs of children that a pair of ids asks for at the variable v: those of the edges that overlap.
abbrev pub pairs_of : Table → ℕ → ℕ → ℕ → Pieces (ℕ × ℕ)
pairs_of t v x y = overlay (edges_of t v x) (edges_of t v y)

-- Whether the last pair comes first, at the variable v, which both sides test or only one: "booleans high then low where both sides test
-- the variable, low then high where only one does".
abbrev pub low_first : ℕ → Bool → Bool
low_first v both = not (is_range v) && not both

-- Both at the earlier of two variables.
unfoldable pub conj_node : (Table → ℕ × ℕ → Table × ℕ) → Table → ℕ → ℕ → ℕ → ℕ → Table × ℕ
conj_node f t x y u w =
    let v = min u w in
    create_over v (walk_in (low_first v (eqb u w)) f t (pairs_of t v x y))

unfoldable pub conj_step : (Table → ℕ × ℕ → Table × ℕ) → Table → ℕ → ℕ → Option ℕ → Table × ℕ
conj_step f t x y (some z) = (t, z)
conj_step f t x y none = conj_node f t x y (at t (ref x)).var (at t (ref y)).var

-- "Recursion is bounded by the variables still ahead": n is more than those.
unfoldable pub conj : ℕ → Table → ℕ → ℕ → Table × ℕ
conj zero t x y = (t, FALSE)
conj (suc n) t x y = conj_step (λ s p. conj n s p.0 p.1) t x y (opening x y)

abbrev pub and : Table → ℕ → ℕ → Table × ℕ
and t x y = conj (suc variables) t x y

-- "`or` by negation."
unfoldable pub or : Table → ℕ → ℕ → Table × ℕ
or t x y = let z = and t (flip x) (flip y) in (z.0, flip z.1)
