-- What a range of positions holds, by its ends. Assumes nothing.
use mathlib.Core.Path.{◌≡◌, refl, sym, ◌∙◌}
use mathlib.Core.Bool.{Bool, true, false, not, ◌&&◌, ◌||◌}
use Prim.Native.Nat.{ℕ, suc, ◌≤◌, ◌<◌, min, max}
use native.Mathlib.Omega.{arith}
use lib.Dec.{leb, ltb, eqb}
use borrow.Author.Tests.{leb-true, leb-false, le-leb, lt-leb, lt-ltb, le-ltb, eqb-true, eqb-false, eq-eqb, ne_eqb, ltb-true, ltb-false}
use Rattle.ranges.specs.Line.{top}
use Rattle.ranges.specs.Holding.{holds, Both, Emptiness, Outside, neighbours}
use Rattle.ranges.specs.Ending.{Before, After}
use Rattle.ranges.specs.declared.spans.Range.{Range}

-- A position is in a range, below it or above it.
holds_cases : (P : Bool → Type 0) (r : Range) (q : ℕ) → (r.first ≤ q → q ≤ r.last → P true) → (q < r.first → P false) → (r.last < q → P false) → P (holds r q)
holds_cases P r q f g h = go (leb r.first q) (leb q r.last) refl refl
  where
    go : (s t : Bool) → leb r.first q ≡ s → leb q r.last ≡ t → P (s && t)
    go true true a b = f (leb-true r.first q a) (leb-true q r.last b)
    go true false a b = h (leb-false q r.last b)
    go false t a b = g (leb-false r.first q a)

-- A test that goes with it. `leb 0 0` is true and `leb 1 0` is false.
pub holds_is : (r : Range) (q a b : ℕ) → (r.first ≤ q → q ≤ r.last → a ≤ b) × (q < r.first → b < a) × (r.last < q → b < a) → holds r q ≡ leb a b
holds_is r q a b h = holds_cases (λ t. t ≡ leb a b) r q (λ x y. sym (le-leb a b (h.0 x y))) (λ x. sym (lt-leb a b (h.1 x))) (λ x. sym (lt-leb a b (h.2 x)))

pub both_hold : (a b r : Range) → r.first ≡ max a.first b.first → r.last ≡ min a.last b.last → Both a b r
both_hold a b r f l q =
    holds_cases (λ t. holds r q ≡ (t && holds b q)) a q
    (λ x y. holds_cases (λ t. holds r q ≡ t) b q
    (λ z w. holds_is r q 0 0 (omega arith))
    (λ z. holds_is r q 1 0 (omega arith))
    (λ z. holds_is r q 1 0 (omega arith)))
    (λ x. holds_is r q 1 0 (omega arith))
    (λ x. holds_is r q 1 0 (omega arith))

-- Whether a range is empty.
pub emptiness : (r : Range) → Emptiness r (ltb r.last r.first)
emptiness r = record {
  yes = λ e q. let l = ltb-true r.last r.first e in holds_is r q 1 0 (omega arith);
  no = λ e. let l = ltb-false r.last r.first e in holds_is r r.first 0 0 (omega arith);
}

module _ {r : Range} {t : Bool} (e : Emptiness r t) where
  itself : holds r r.first ≡ leb r.first r.last
  itself = holds_is r r.first r.first r.last (omega arith)

  pub range_last_lt_first : t ≡ true → r.last < r.first
  range_last_lt_first h = leb-false r.first r.last (sym itself ∙ e.yes h r.first)

  pub range_first_le_last : t ≡ false → r.first ≤ r.last
  range_first_le_last h = leb-true r.first r.last (sym itself ∙ e.no h)

-- What a range leaves of the line.
pub outside_empty : (r : Range) → r.last < r.first → Outside r (record { left = record { first = 0; last = top }; right = record { first = 1; last = 0 } })
outside_empty r l q h = rw (holds_is (record { first = 0; last = top }) q 0 0 (omega arith), holds_is r q 1 0 (omega arith))

pub outside_parts : (r a b : Range) → r.first ≤ r.last → Before r.first a → After r.last b → Outside r (record { left = a; right = b })
outside_parts r a b l f g q h = rw (f q, g q h) (holds_cases (λ t. (ltb q r.first || ltb r.last q) ≡ not t) r q
    (λ x y. rw (le-ltb q r.first x, le-ltb r.last q y))
    (λ x. rw (lt-ltb q r.first x))
    (λ x. rw (le-ltb q r.first (omega arith), lt-ltb r.last q x)))

-- Ranges that are no neighbours, and the test of two that may be.
pub apart : (a b : Range) → (a.first ≤ a.last → b.first ≤ b.last → suc a.last ≡ b.first → ⊥) → false ≡ neighbours a b
apart a b f = go (leb a.first a.last) (leb b.first b.last) (eqb (suc a.last) b.first) refl refl refl
  where
    go : (s t u : Bool) → leb a.first a.last ≡ s → leb b.first b.last ≡ t → eqb (suc a.last) b.first ≡ u → false ≡ (s && (t && u))
    go true true true x y z = absurd (f (leb-true a.first a.last x) (leb-true b.first b.last y) (eqb-true (suc a.last) b.first z))
    go true true false x y z = refl
    go true false u x y z = refl
    go false t u x y z = refl

pub next_to : (a b : Range) (x : ℕ) → a.first ≤ a.last → b.first ≤ b.last → (x ≡ a.last → suc a.last ≡ b.first) × (suc a.last ≡ b.first → x ≡ a.last) → eqb x a.last ≡ neighbours a b
next_to a b x k l h = rw (le-leb a.first a.last k, le-leb b.first b.last l) (go (eqb (suc a.last) b.first) refl)
  where
    go : (t : Bool) → eqb (suc a.last) b.first ≡ t → eqb x a.last ≡ t
    go true e = eq-eqb x a.last (h.1 (eqb-true (suc a.last) b.first e))
    go false e = ne_eqb x a.last (λ d. eqb-false (suc a.last) b.first e (h.0 d))
