-- What a reader of the demands looks for, as far as it speaks of tables alone. The operations' part is in the crate algebra.
-- Readings are document 01's: whole-number places within the end places, and yes-or-no values. Assumes nothing.
use mathlib.Core.Path.{◌≡◌, refl, sym, ap, fun_ext}
use mathlib.Core.Bool.{Bool, true, false, not, cond, false≢true}
use mathlib.Core.List.{List}
use mathlib.Core.Logic.{◌↔◌}
use Prim.Native.Nat.{ℕ, zero, suc, ◌≤◌, ◌<◌}
use native.Mathlib.Omega.{arith}
use lib.ListN.{length}
use borrow.Author.Tests.{le-ltb}
use Rattle.ids.specs.Id.{sign, ref, flip}
use Rattle.ranges.specs.Line.{Place, lowest}
use Rattle.diagram.specs.Pieces.{Pieces, last, cut}
use Rattle.diagram.specs.Shape.{count, Reduced}
use Rattle.diagram.specs.Table.{first_boolean, is_range, Table, at, flipped, value, Continues}
use Rattle.diagram.specs.Sound.{Known, Sound}
use Rattle.diagram.specs.Reading.{Reading, positions, says, everywhere}
use Rattle.diagram.specs.Ordered.{Diagram, Ordered, Tells, Reached, edges, diagram_of}
use Rattle.diagram.proofs.Lookup.{value_flip}
use Rattle.diagram.proofs.Facts.{Facts, facts_at, origin}
use Rattle.diagram.proofs.Continuing.{continues_value}
use Rattle.diagram.proofs.Apart.{same_value_same_id, value_origin}
use Rattle.diagram.proofs.Diagrams.{reached, reached_listed, tells, tells_is, tells_told, sound_ordered, tells_value}
use Rattle.diagram.proofs.Counting.{same_counts}
use Rattle.diagram.proofs.Fewest.{fewest}
use Rattle.diagram.proofs.Readings.{positions_within, readings_cover_assignments}

-- Theorem 1. A table that continues another keeps what older ids say,
pub old_ids_say_the_same : (t s : Table) → Continues t s → (ρ : Reading) (id : ℕ) → Known t id → says s ρ id ≡ says t ρ id
old_ids_say_the_same t s g ρ id k = continues_value g (positions ρ) id k

-- and flipping the lowest bit of any id negates what it says.
pub flip_says_the_opposite : (t : Table) (ρ : Reading) (id : ℕ) → says t ρ (flip id) ≡ not (says t ρ id)
flip_says_the_opposite t ρ id = value_flip t (positions ρ) id

-- Theorem 2, canonicity. Two ids of one sound table are equal exactly when they agree under every reading.
pub equal_when_they_agree : (t : Table) → Sound t → (a b : ℕ) → Known t a → Known t b → (a ≡ b) ↔ ((ρ : Reading) → says t ρ a ≡ says t ρ b)
equal_when_they_agree t z a b ka kb = (λ e ρ. ap (says t ρ) e, λ h. same_value_same_id t z a b ka kb (readings_cover_assignments (λ α. value t α a ≡ value t α b) h))

-- Theorem 3, fewest. No ordered diagram that says what an id of a sound table says has fewer nodes or fewer edges than that id reaches,
pub no_smaller_diagram : (t : Table) → Sound t → (a : ℕ) → Known t a → (d : Diagram) → Ordered d → (c : ℕ) → ref c ≤ d.size → ((ρ : Reading) → Tells d (positions ρ) c (says t ρ a))
    → (rs ss : List ℕ) → Reached (diagram_of t) a rs → Reached d c ss → (length rs ≤ length ss) × (edges (diagram_of t) rs ≤ edges d ss)
no_smaller_diagram t z a ka d o c kc h =
    fewest t z d o a c ka kc (readings_cover_assignments (λ α. value t α a ≡ tells d α c) (λ ρ. sym (tells_is d o (positions ρ) (positions_within ρ) (h ρ) kc)))

-- and what the id reaches is itself such a diagram.
pub table_is_a_diagram : (t : Table) → Sound t → Ordered (diagram_of t) × ((ρ : Reading) (id : ℕ) → Known t id → Tells (diagram_of t) (positions ρ) id (says t ρ id))
table_is_a_diagram t z =
    let o = sound_ordered t z in
    (o, λ ρ id k. rw (tells_value t z (positions ρ) (positions_within ρ) id k) at (tells_told (diagram_of t) o (positions ρ) (positions_within ρ) id k))

-- Each id of an ordered diagram says yes or no under a reading, and not both.
pub diagram_tells_once : (d : Diagram) → Ordered d → (id : ℕ) → ref id ≤ d.size → (ρ : Reading) → (b : Bool) × Tells d (positions ρ) id b × ((b' : Bool) → Tells d (positions ρ) id b' → b ≡ b')
diagram_tells_once d o id k ρ = (tells d (positions ρ) id, tells_told d o (positions ρ) (positions_within ρ) id k, λ b' x. tells_is d o (positions ρ) (positions_within ρ) x k)

-- The nodes that it reaches have a list, and every such list has as many nodes and edges.
pub reached_has_a_list : (d : Diagram) → Ordered d → (id : ℕ) → ref id ≤ d.size → (rs : List ℕ) × Reached d id rs
reached_has_a_list d o id k = (reached d o id, reached_listed d o id k)

pub reached_counts_once : (d : Diagram) (id : ℕ) (rs ss : List ℕ) → Reached d id rs → Reached d id ss → (length rs ≡ length ss) × (edges d rs ≡ edges d ss)
reached_counts_once d id rs ss x y =
    let a = same_counts d rs ss x.once (λ r m. (y.each r).1 ((x.each r).0 m)) in
    let b = same_counts d ss rs y.once (λ r m. (x.each r).1 ((y.each r).0 m)) in
    (omega arith, omega arith)

-- A boolean node of a sound table is document 01's: two edges, high first, and they differ.
pub boolean_node : (t : Table) → Sound t → (r : ℕ) → 0 < r → r ≤ length t → first_boolean ≤ (at t r).var → (high : ℕ) × (low : ℕ) × ((at t r).edges ≡ cut high 1 (last low)) × (high ≡ low → ⊥)
boolean_node t z r h l b = go (at t r).edges f.many (rw (le-ltb (at t r).var first_boolean b) at f.reduced)
  where
    f : Facts t r (at t r)
    f = facts_at t z r h l

    go : (e : Pieces ℕ) → 2 ≤ count e → Reduced 0 1 e → (high : ℕ) × (low : ℕ) × (e ≡ cut high 1 (last low)) × (high ≡ low → ⊥)
    go (last c) n x = absurd (omega arith)
    go (cut c k (last d)) n x = let q : k ≡ 1 = omega arith in (c, d, ap (λ (j : ℕ). cut c j (last d)) q, x.2)
    go (cut c k (cut d j e)) n x = absurd (omega (arith, x.1, x.3.0, x.3.1))

-- Theorem 7, the complement bit. An id is even exactly when it is true at the lowest place of every range variable with every boolean yes.
lowest_origin : (h : Place lowest) → positions (everywhere lowest h) ≡ origin
lowest_origin h = fun_ext (λ v. go (is_range v))
  where
    go : (b : Bool) → ◌≡◌ {A = ℕ} (cond b 0 0) 0
    go true = refl
    go false = refl

even_is_true : (s : ℕ) → s < 2 → (s ≡ 0) ↔ (flipped s true ≡ true)
even_is_true zero h = (λ e. refl, λ e. refl)
even_is_true (suc s) h = (λ e. absurd (omega arith), λ e. absurd (false≢true e))

pub even_when_true_at_the_lowest : (t : Table) → Sound t → (id : ℕ) → Known t id → (h : Place lowest) → (sign id ≡ 0) ↔ (says t (everywhere lowest h) id ≡ true)
even_when_true_at_the_lowest t z id k h = rw (lowest_origin h, value_origin t z id k) (even_is_true (sign id) (omega arith))
