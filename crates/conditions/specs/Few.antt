-- The edges of a condition on one variable: at most three. Assumes nothing.
use Rattle.std.specs.Prelude.{ℕ, zero, suc}
use Rattle.diagram.specs.Pieces.{Pieces, last, cut}
use Rattle.making.specs.declared.edges.Edge.{Edge}

-- The first of three edges with none, one or two cuts, as pieces. The cut of the last one is not looked at.
abbrev pub few : ℕ → Edge → Edge → Edge → Pieces ℕ
few zero a b c = last a.child.0
few (suc zero) a b c = cut a.child.0 a.cut (last b.child.0)
few (suc (suc m)) a b c = cut a.child.0 a.cut (cut b.child.0 b.cut (last c.child.0))
