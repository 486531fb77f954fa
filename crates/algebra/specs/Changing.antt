-- Restriction, narrowing and widening. Document 01, steps 7 to 9: each goes down to one variable and changes the edges there.
-- Assumes nothing.
use Rattle.std.specs.Prelude.{Bool, true, false, not, cond, ℕ, zero, suc, ltb, leb}
use Rattle.ids.specs.Id.{FALSE, ref}
use Rattle.ranges.specs.Line.{position}
use Rattle.ranges.specs.Ending.{first_place, last_place, empty}
use Rattle.ranges.specs.declared.bounds.Bound.{Bound}
use Rattle.diagram.specs.Pieces.{Pieces, last, cut, select}
use Rattle.diagram.specs.Table.{variables, is_range, top_of, Table, at}
use Rattle.diagram.specs.Cofactor.{map, edges_of}
use Rattle.algebra.specs.Overlay.{above, overlay}
use Rattle.algebra.specs.Making.{create_node}
use Rattle.algebra.specs.Conditions.{between}
use Rattle.algebra.specs.Conjunction.{walk_in, create_over}

-- Whether an id's node tests a variable before v.
unfoldable pub is_before : Table → ℕ → ℕ → Bool
is_before t v id = ltb (at t (ref id)).var v

-- Down from a node of an earlier variable u to each child, "low then high in steps 7 to 9", ranges left to right; else g changes
-- the edges at v. No node of a later variable is passed, so that none of v is made below one.
unfoldable pub change_step : Bool → (Table → ℕ → Table × ℕ) → (Pieces ℕ → Pieces ℕ) → Table → ℕ → ℕ → ℕ → Table × ℕ
change_step true f g t u v id = create_over u (walk_in (not (is_range u)) f t (edges_of t u id))
change_step false f g t u v id = create_node t v (g (edges_of t v id))

-- "With the variables left to the last as the falling number": n is at least the variables before v that are ahead.
unfoldable pub change : ℕ → (Pieces ℕ → Pieces ℕ) → Table → ℕ → ℕ → Table × ℕ
change zero g t v id = create_node t v (g (edges_of t v id))
change (suc n) g t v id = change_step (is_before t v id) (λ s c. change n g s v c) g t (at t (ref id)).var v id

-- Restriction: the edge at one position, for all.
abbrev pub fixed : ℕ → Pieces ℕ → Pieces ℕ
fixed p e = last (select e p)

-- "Restriction of one boolean to a value. Naming a range variable returns the id unchanged."
unfoldable pub restrict : Table → ℕ → Bool → ℕ → Table × ℕ
restrict t v b id = cond (is_range v) (t, id) (change variables (fixed (cond b 0 1)) t v id)

-- Narrowing: the first and the last edge inside go on to the ends.
unfoldable pub cut_above : ℕ → Pieces ℕ → Pieces ℕ
cut_above hi (last c) = last c
cut_above hi (cut c k e) = cond (leb k hi) (cut c k (cut_above hi e)) (last c)

abbrev pub narrowed : ℕ → ℕ → Pieces ℕ → Pieces ℕ
narrowed lo hi e = cut_above hi (above lo e)

-- "With empty bounds the answer is FALSE wherever .. the old answer still changes with the chosen one": where there is more than one edge.
abbrev pub emptied : Pieces ℕ → Pieces ℕ
emptied (last c) = last c
emptied (cut c k e) = last FALSE

unfoldable pub narrow : Table → ℕ → Bound → Bound → ℕ → Table × ℕ
narrow t v lower upper id = cond (empty lower upper) (change variables emptied t v id) (change variables (narrowed (position (first_place lower)) (position (last_place upper))) t v id)

-- Widening: "old answer and inside the bounds", so FALSE outside them.
abbrev pub keep : ℕ × Bool → ℕ
keep x = cond x.1 x.0 FALSE

abbrev pub widened : ℕ → ℕ → ℕ → Pieces ℕ → Pieces ℕ
widened lo hi top e = map keep (overlay e (between lo hi top))

-- "Empty bounds give FALSE."
unfoldable pub widen : Table → ℕ → Bound → Bound → ℕ → Table × ℕ
widen t v lower upper id = cond (empty lower upper) (t, FALSE) (change variables (widened (position (first_place lower)) (position (last_place upper)) (top_of v)) t v id)
