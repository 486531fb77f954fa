-- The stores of `splice`. Assumes nothing.
use mathlib.Core.Path.{◌≡◌, refl, sym, ◌∙◌, subst}
use mathlib.Core.List.{List}
use Prim.Native.Nat.{ℕ, zero, suc, ◌+◌, ◌-◌, ◌*◌, ◌≤◌, ◌<◌}
use native.Mathlib.Omega.{arith}
use lib.ListN.{length, get_or, set, length-set}
use lib.Seq.{get_or-set_same, get_or-set_other}
use Rattle.chains.specs.Row.{words, from, Stored}
use Rattle.chains.proofs.Stores.{set_back, stores, stores_stored}
use Rattle.making.specs.Storing.{IndexPut}

back_some : (l : List ℕ) (r q y : ℕ) → 0 < q → set_back l r q y ≡ set l (r * 2 + (q - 1)) y
back_some l r zero y h = absurd (omega arith)
back_some l r (suc m) y h = let e : m ≡ suc m - 1 = omega arith in subst (λ (k : ℕ). set l (r * 2 + m) y ≡ set l (r * 2 + k) y) e refl

module _ (index : List ℕ) (r n b p q x y v w h : ℕ) (long : length index ≡ r * 4) (b_lt : b < r) (n-lt : n < r) (p-le : p ≤ n) (q-le : q ≤ n) where
  -- the hash word first
  abbrev own : List ℕ
  own = set index (r * 3 + n) h

  all : List ℕ
  all = stores own r n b p q x y v w

  own_long : length own ≡ r * 4
  own_long = length-set index (r * 3 + n) h ∙ long

  from_lt : (z : ℕ) → z ≤ n → from r b z < r * 2
  from_lt zero g = omega arith
  from_lt (suc m) g = omega arith

  back_length : (l : List ℕ) (z : ℕ) → length (set_back l r z y) ≡ length l
  back_length l zero = refl
  back_length l (suc m) = length-set l (r * 2 + m) y

  back_other : (l : List ℕ) (z i : ℕ) → z ≤ n → r * 3 ≤ i → get_or (set_back l r z y) i 0 ≡ get_or l i 0
  back_other l zero i g k = refl
  back_other l (suc m) i g k = get_or-set_other l (r * 2 + m) i y 0 (λ e. omega arith)

  chained : Stored r n b p q x y v w (words own) (words all)
  unfolding all
  chained = stores_stored own r n b p q x y v w (omega (arith, own_long)) b_lt n-lt p-le q-le

  -- no store but the first is of a hash word
  behind : (i : ℕ) → r * 3 ≤ i → get_or all i 0 ≡ get_or own i 0
  unfolding all
  behind i g = back_other _ q i q-le g ∙ (get_or-set_other (set (set own (from r b p) x) (r + n) v) (r * 2 + n) i w 0 (λ e. omega arith) ∙ (get_or-set_other (set own (from r b p) x) (r + n) i v 0 (λ e. omega arith) ∙ get_or-set_other own (from r b p) i x 0 (λ e. omega (arith, from_lt p p-le))))

  broad : length all ≡ length index
  unfolding all
  broad = back_length _ q ∙ (length-set (set (set own (from r b p) x) (r + n) v) (r * 2 + n) w ∙ (length-set (set own (from r b p) x) (r + n) v ∙ (length-set own (from r b p) x ∙ length-set index (r * 3 + n) h)))

  put : IndexPut r n b p q x y v w h index all
  put = record {
    broad = broad;
    chained = record {
      on = chained.on;
      own_next = chained.own_next;
      own_prev = chained.own_prev;
      back = chained.back;
      other = λ i l d e f g. chained.other i l d e f g ∙ get_or-set_other index (r * 3 + n) i h 0 (λ k. omega arith);
    };
    hash = behind (r * 3 + n) (omega arith) ∙ get_or-set_same index (r * 3 + n) h 0 (omega arith);
    other_hash = λ m d. behind (r * 3 + m) (omega arith) ∙ get_or-set_other index (r * 3 + n) (r * 3 + m) h 0 (λ k. d (omega arith));
  }

  module _ {at : ℕ} (is : at ≡ from r b p) where
    abbrev three : ℕ → List ℕ
    three k = set (set (set own k x) (r + n) v) (r * 2 + n) w

    pub spliced_some : 0 < q → IndexPut r n b p q x y v w h index (set (three at) (r * 2 + (q - 1)) y)
    unfolding all
    spliced_some g = subst (λ (k : ℕ). IndexPut r n b p q x y v w h index (set (three k) (r * 2 + (q - 1)) y)) (sym is) (subst (IndexPut r n b p q x y v w h index) (back_some (three (from r b p)) r q y g) put)
