-- The shapes of a condition's edges: the first one, two or three of an array, and a range of positions by them. Assumes nothing.
use mathlib.Core.Path.{◌≡◌, ◌∙◌, ap}
use mathlib.Core.List.{List}
use mathlib.Core.Logic.{◌⊎◌, ⊎_elim}
use Prim.Native.Nat.{ℕ, zero, suc, ◌+◌, ◌-◌, ◌≤◌, ◌<◌}
use native.Mathlib.Omega.{arith}
use lib.ListN.{length, get_or, set, length-set}
use lib.Seq.{get_or-set_same, get_or-set_other}
use borrow.Author.Tests.{lt-ltb, le-ltb, eq-eqb, ne_eqb}
use Rattle.diagram.specs.Pieces.{last, cut}
use Rattle.diagram.specs.Shape.{run}
use Rattle.diagram.specs.Cofactor.{map}
use Rattle.diagram.specs.Table.{most_edges}
use Rattle.algebra.specs.Conditions.{up_to, between, terminal}
use Rattle.making.specs.declared.edges.Edge.{Edge}
use Rattle.making.specs.Building.{Building, none, pieces_of}
use Rattle.conditions.specs.Few.{few}

-- Three edges stored in front: each is where it was put.
module _ (list : List Edge) (a b c : Edge) (size : length list ≡ most_edges) where
  abbrev stored : List Edge
  stored = set (set (set list 0 a) 1 b) 2 c

  size_stored : length stored ≡ most_edges
  size_stored = length-set (set (set list 0 a) 1 b) 2 c ∙ (length-set (set list 0 a) 1 b ∙ (length-set list 0 a ∙ size))

  at_0 : get_or stored 0 none ≡ a
  at_0 = get_or-set_other (set (set list 0 a) 1 b) 2 0 c none (λ e. omega arith) ∙ (get_or-set_other (set list 0 a) 1 0 b none (λ e. omega arith) ∙ get_or-set_same list 0 a none (omega arith))

  at_1 : get_or stored 1 none ≡ b
  at_1 = get_or-set_other (set (set list 0 a) 1 b) 2 1 c none (λ e. omega arith) ∙ get_or-set_same (set list 0 a) 1 b none (omega (arith, length-set list 0 a))

  at_2 : get_or stored 2 none ≡ c
  at_2 = get_or-set_same (set (set list 0 a) 1 b) 2 c none (omega (arith, length-set list 0 a, length-set (set list 0 a) 1 b))

  -- So the first of them, as pieces, are these.
  pieces : (m : ℕ) → m ≤ 2 → run (λ j. (get_or stored j none).child.0) (λ j. (get_or stored j none).cut) 0 m ≡ few m a b c
  unfolding run
  pieces zero h = rw at_0
  pieces (suc zero) h = rw (at_0, at_1)
  pieces (suc (suc zero)) h = rw (at_0, at_1, at_2)
  pieces (suc (suc (suc m))) h = absurd (omega arith)

  pub few_stored : (len : ℕ) → 1 ≤ len → len ≤ 3 → Building (record { list = stored; len = len }) × (pieces_of (record { list = stored; len = len }) ≡ few (len - 1) a b c)
  few_stored len l m = (record { size = size_stored; some = l; most = omega arith }, pieces (len - 1) (omega arith))

-- The three parts of a range from lo to hi, as edges.
abbrev pub lower : ℕ → Edge
lower lo = record { cut = lo; child = record { 0 = 1 }; spare = 0 }

abbrev pub inner : ℕ → Edge
inner hi = record { cut = hi + 1; child = record { 0 = 0 }; spare = 0 }

abbrev pub upper : Edge
upper = record { cut = 0; child = record { 0 = 1 }; spare = 0 }

-- How many edges stand from lo on: one more where hi is below the top.
abbrev pub Ending : ℕ → ℕ → ℕ → Type 0
Ending len hi top = ((hi < top) × (len ≡ 2)) ⊎ ((top ≤ hi) × (len ≡ 1))

module _ (lo hi t : ℕ) where
  pub empty_range : hi < lo → few 0 upper upper upper ≡ map terminal (between lo hi t)
  unfolding between map
  empty_range h = rw (lt-ltb hi lo h)

  module _ (len : ℕ) (some : lo ≤ hi) (ends : Ending len hi t) where
    pub from_lowest : lo ≡ 0 → few (len - 1) (inner hi) upper upper ≡ map terminal (between lo hi t)
    unfolding between up_to map
    from_lowest z = ⊎_elim
        (λ e. rw (le-ltb hi lo some, eq-eqb lo 0 z, lt-ltb hi t e.0, e.1) (ap (λ (k : ℕ). cut 0 k (last 1)) (let q : hi + 1 ≡ suc hi = omega arith in q)))
        (λ e. rw (le-ltb hi lo some, eq-eqb lo 0 z, le-ltb hi t e.0, e.1)) ends

    pub from_higher : (lo ≡ 0 → ⊥) → few (len + 1 - 1) (lower lo) (inner hi) upper ≡ map terminal (between lo hi t)
    unfolding between up_to map
    from_higher z = ⊎_elim
        (λ e. rw (le-ltb hi lo some, ne_eqb lo 0 z, lt-ltb hi t e.0, e.1) (ap (λ (k : ℕ). cut 1 lo (cut 0 k (last 1))) (let q : hi + 1 ≡ suc hi = omega arith in q)))
        (λ e. rw (le-ltb hi lo some, ne_eqb lo 0 z, le-ltb hi t e.0, e.1)) ends
