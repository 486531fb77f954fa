-- Laying one list of pieces over another, and merging neighbours. Document 01, steps 4 and 5. Assumes nothing.
use Rattle.std.specs.Prelude.{cond, ℕ, ltb, leb, eqb}
use Rattle.diagram.specs.Pieces.{Pieces, last, cut}
use Rattle.diagram.specs.Shape.{first}

module _ {A B : Type 0} where
  -- a beside each value of f below the position k, and then r
  unfoldable pub below : A → ℕ → Pieces B → Pieces (A × B) → Pieces (A × B)
  below a k (last b) r = cut (a, b) k r
  below a k (cut b l f) r = cond (ltb l k) (cut (a, b) l (below a k f r)) (cut (a, b) k r)

  -- a beside each value of f
  unfoldable pub beside : A → Pieces B → Pieces (A × B)
  beside a (last b) = last (a, b)
  beside a (cut b l f) = cut (a, b) l (beside a f)

-- the values of f from the position k on
unfoldable pub above : {B : Type 0} → ℕ → Pieces B → Pieces B
above k (last b) = last b
above k (cut b l f) = cond (leb l k) (above k f) (cut b l f)

-- Both values at each position, a piece for each overlap, left to right: what the source finds by intersecting each left range with
-- each right one.
unfoldable pub overlay : {A B : Type 0} → Pieces A → Pieces B → Pieces (A × B)
overlay (last a) f = beside a f
overlay (cut a k e) f = below a k f (overlay e (above k f))

-- "Neighbouring edges with equal children are merged."
unfoldable pub join : ℕ → ℕ → Pieces ℕ → Pieces ℕ
join c k e = cond (eqb c (first e)) e (cut c k e)

unfoldable pub merge : Pieces ℕ → Pieces ℕ
merge (last c) = last c
merge (cut c k e) = join c k (merge e)
