-- Conditions. Document 01, step 3; `from_range`, `from_string` and `from_bool` of the source. Assumes nothing.
use Rattle.std.specs.Prelude.{Bool, true, false, cond, ℕ, suc, ltb, eqb, ℤ}
use Rattle.ids.specs.Id.{TRUE, FALSE, flip}
use Rattle.ranges.specs.Line.{position}
use Rattle.ranges.specs.Ending.{first_place, last_place, lower_of, upper_of, outside_of}
use Rattle.ranges.specs.declared.bounds.Bound.{Bound}
use Rattle.ranges.specs.declared.bounds.Comparison.{Comparison}
use Rattle.diagram.specs.Pieces.{Pieces, last, cut}
use Rattle.diagram.specs.Table.{top_of, Table}
use Rattle.diagram.specs.Cofactor.{map}
use Rattle.algebra.specs.Making.{create_node}

-- Where the positions up to one are, among those up to the top,
unfoldable pub up_to : ℕ → ℕ → Pieces Bool
up_to hi top = cond (ltb hi top) (cut true (suc hi) (last false)) (last true)

-- and where those from one to another are: nowhere, if they are crossed.
unfoldable pub between : ℕ → ℕ → ℕ → Pieces Bool
between lo hi top = cond (ltb hi lo) (last false) (cond (eqb lo 0) (up_to hi top) (cut false lo (up_to hi top)))

-- "A range by two bounds": TRUE inside, FALSE outside.
abbrev pub terminal : Bool → ℕ
terminal b = cond b TRUE FALSE

unfoldable pub from_range : Table → ℕ → Bound → Bound → Table × ℕ
from_range t v lower upper = create_node t v (map terminal (between (position (first_place lower)) (position (last_place upper)) (top_of v)))

-- "Six comparisons with a key: = != < <= > >=". The id for != is that for =, flipped.
unfoldable pub comparison : Table → ℕ → Comparison → ℤ → Table × ℕ
comparison t v op key =
    let x = from_range t v (lower_of op key) (upper_of op key) in
    (x.0, cond (outside_of op) (flip x.1) x.1)

-- A boolean condition: TRUE at yes, the high edge, and FALSE at no.
unfoldable pub from_bool : Table → ℕ → Table × ℕ
from_bool t v = create_node t v (cut TRUE 1 (last FALSE))
