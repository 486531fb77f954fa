-- What disjointness asks of a lent table and of its memo, and what it answers. Document 01, step 6. Assumes nothing.
use Rattle.std.specs.Prelude.{◌≡◌, ◌||◌, Bool, false, ◌&&◌, List, ℕ, ◌*◌, ◌≤◌, eqb, length, Option, MatchOption}
use Rattle.ids.specs.Id.{TRUE, FALSE, flip}
use Rattle.diagram.specs.Pieces.{Pieces}
use Rattle.diagram.specs.Shape.{Each, Rising}
use Rattle.diagram.specs.Table.{first_boolean, top_of, Table, Assignment, value}
use Rattle.algebra.specs.Overlay.{overlay}
use Rattle.algebra.specs.Disjointness.{every, disjoint}
use Rattle.table.specs.Layout.{most_nodes, Store}
use Rattle.table.specs.Held.{held}
use Rattle.memo.specs.Recalling.{Memo}
use Rattle.views.specs.Seeing.{used_in, Readable, Asked, seen, Inside}
use Rattle.views.specs.declared.View.{View}

-- The table that is held.
abbrev pub whole : Store → Table
whole st = held st (used_in st.nodes)

-- What the opening tests ask: one is FALSE or they are opposite,
abbrev pub Opposed : ℕ → ℕ → Bool
Opposed x y = eqb x FALSE || (eqb y FALSE || eqb (flip x) y)

-- and one is TRUE or they are equal.
abbrev pub Agreeing : ℕ → ℕ → Bool
Agreeing x y = eqb x TRUE || (eqb y TRUE || eqb x y)

-- "The answer is no at the first overlapping pair of edges whose children aren't disjoint."
unfoldable pub apart : ℕ → Table → Pieces ℕ → Pieces ℕ → Bool
apart n t e f = every (λ p. disjoint n t p.0 p.1) (overlay e f)

-- No assignment makes both true: what an entry says of its pair. Only such pairs are noted, and so the entry's answer says nothing.
abbrev pub Excluding : Table → ℕ → ℕ → ℕ → Type 0
Excluding t x y z = (α : Assignment) → (value t α x && value t α y) ≡ false

-- A table that can be read, and a memo of pairs that exclude each other in it.
pub record Listed (st : Store) (noted : List ℕ) : Type 0 where
  pub readable : Readable st (used_in st.nodes)
  pub most : length noted ≤ most_nodes * 8
  pub pairs : Memo (Excluding (whole st)) noted

-- An id that is known, with fewer than n variables ahead.
abbrev pub AskedIn : Store → ℕ → ℕ → Type 0
AskedIn st n id = Asked (whole st) (used_in st.nodes) n id

-- Two such ids.
pub record AskedPair (st : Store) (noted : List ℕ) (n x y : ℕ) : Type 0 where
  pub listed : Listed st noted
  pub left : AskedIn st n x
  pub right : AskedIn st n y

-- Two views at one variable: their cuts rise, and each child may be asked about. v is that variable, or another of its kind.
pub record AskedSides (st : Store) (noted : List ℕ) (v n : ℕ) (a b : View) : Type 0 where
  pub listed : Listed st noted
  pub left : Inside (length st.children) a
  pub right : Inside (length st.children) b
  pub left_rises : Rising 0 (top_of v) (seen st.children st.cuts v a 0)
  pub right_rises : Rising 0 (top_of v) (seen st.children st.cuts v b 0)
  pub left_asked : Each (AskedIn st n) (seen st.children st.cuts v a 0)
  pub right_asked : Each (AskedIn st n) (seen st.children st.cuts v b 0)
  pub two_edges : first_boolean ≤ v → (a.count ≤ 2) × (b.count ≤ 2)

-- The answer, if there is one, is the one that is wanted: there is none only where no rest is left. What the memo says afterwards is still
-- true; and where there is a set of words to note in, the rest stays.
pub record Answers (st : Store) (noted : List ℕ) (rest rest' : ℕ) (want : Bool) (r : Option Bool) : Type 0 where
  pub right : MatchOption r (rest' ≡ 0) (λ yes. yes ≡ want)
  pub listed : Listed st noted
  pub stays : 8 ≤ length noted → rest' ≡ rest
