-- Counting: from a list without repetition, with a partner in another list for each element and no partner twice, no heavier list
-- comes. Assumes nothing.
use mathlib.Core.Path.{◌≡◌, refl, sym, ◌∙◌, ap}
use mathlib.Core.Bool.{Bool, true, false, cond}
use mathlib.Core.List.Memᴰ
use mathlib.Core.List.{List, [], ◌∷◌, Memᴰ}
use Prim.Native.Nat.{ℕ, zero, suc, ◌+◌, ◌≤◌, ◌<◌}
use native.Mathlib.Omega.{arith}
use native.Mathlib.Decide.{ℕ_discrete}
use lib.ListN.{length}
use Rattle.diagram.specs.Ordered.{Diagram, Once, edges}

-- The numbers n, n - 1, .., 1; those of a list that pass a test; and a sum over a list.
abbrev pub down : ℕ → List ℕ
down zero = []
down (suc n) = suc n ∷ down n

abbrev pub filter : (ℕ → Bool) → List ℕ → List ℕ
filter f [] = []
filter f (x ∷ xs) = cond (f x) (x ∷ filter f xs) (filter f xs)

abbrev pub sum : (ℕ → ℕ) → List ℕ → ℕ
sum w [] = 0
sum w (x ∷ xs) = w x + sum w xs

-- a list without one of its elements
module _ {A : Type 0} where
  unfoldable pub remove : {y : A} {l : List A} → Memᴰ y l → List A
  remove (Memᴰ.head {xs = xs} e) = xs
  remove (Memᴰ.tail {x = x} m) = x ∷ remove m

  pub length_remove : {y : A} {l : List A} (m : Memᴰ y l) → length l ≡ suc (length (remove m))
  unfolding remove
  length_remove (Memᴰ.head e) = refl
  length_remove (Memᴰ.tail m) = ap suc (length_remove m)

  pub mem_remove : {y : A} {l : List A} (m : Memᴰ y l) (x : A) → (x ≡ y → ⊥) → Memᴰ x l → Memᴰ x (remove m)
  unfolding remove
  mem_remove (Memᴰ.head e) x n (Memᴰ.head q) = absurd (n (q ∙ sym e))
  mem_remove (Memᴰ.head e) x n (Memᴰ.tail k) = k
  mem_remove (Memᴰ.tail m) x n (Memᴰ.head q) = Memᴰ.head q
  mem_remove (Memᴰ.tail m) x n (Memᴰ.tail k) = Memᴰ.tail (mem_remove m x n k)

  pub remove_mem : {y : A} {l : List A} (m : Memᴰ y l) (x : A) → Memᴰ x (remove m) → Memᴰ x l
  unfolding remove
  remove_mem (Memᴰ.head e) x k = Memᴰ.tail k
  remove_mem (Memᴰ.tail m) x (Memᴰ.head q) = Memᴰ.head q
  remove_mem (Memᴰ.tail m) x (Memᴰ.tail k) = Memᴰ.tail (remove_mem m x k)

sum_remove : (w : ℕ → ℕ) {y : ℕ} {l : List ℕ} (m : Memᴰ y l) → sum w l ≡ w y + sum w (remove m)
unfolding remove
sum_remove w (Memᴰ.head {xs = xs} e) = ap (λ (n : ℕ). w n + sum w xs) (sym e)
sum_remove w (Memᴰ.tail m) = omega (arith, sum_remove w m)

pub mem_down : (n x : ℕ) → 0 < x → x ≤ n → Memᴰ x (down n)
mem_down zero x h l = absurd (omega arith)
mem_down (suc n) x h l = go (ℕ_discrete x (suc n)) (λ k. mem_down n x h k)
  where
    go : Dec (x ≡ suc n) → (x ≤ n → Memᴰ x (down n)) → Memᴰ x (down (suc n))
    go (yes e) i = Memᴰ.head e
    go (no e) i = Memᴰ.tail (i (omega arith))

pub down_mem : (n x : ℕ) → Memᴰ x (down n) → (0 < x) × (x ≤ n)
down_mem zero x x3 = elim x3 [ ]
down_mem (suc n) x (Memᴰ.head e) = (omega arith, omega arith)
down_mem (suc n) x (Memᴰ.tail m) = let h = down_mem n x m in (h.0, omega arith)

pub mem_filter : (f : ℕ → Bool) (xs : List ℕ) (x : ℕ) → Memᴰ x xs → f x ≡ true → Memᴰ x (filter f xs)
mem_filter f [] x x4 h = elim x4 [ ]
mem_filter f (y ∷ ys) x (Memᴰ.head e) h = rw (← e, h) (Memᴰ.head refl)
mem_filter f (y ∷ ys) x (Memᴰ.tail m) h = go (f y) (mem_filter f ys x m h)
  where
    go : (q : Bool) → Memᴰ x (filter f ys) → Memᴰ x (cond q (y ∷ filter f ys) (filter f ys))
    go true i = Memᴰ.tail i
    go false i = i

pub filter_mem : (f : ℕ → Bool) (xs : List ℕ) (x : ℕ) → Memᴰ x (filter f xs) → Memᴰ x xs × (f x ≡ true)
filter_mem f (y ∷ ys) x m = go (f y) refl (λ i. filter_mem f ys x i) m
  where
    go : (q : Bool) → f y ≡ q → (Memᴰ x (filter f ys) → Memᴰ x ys × (f x ≡ true)) → Memᴰ x (cond q (y ∷ filter f ys) (filter f ys)) → Memᴰ x (y ∷ ys) × (f x ≡ true)
    go true e i (Memᴰ.head s) = (Memᴰ.head s, ap f s ∙ e)
    go true e i (Memᴰ.tail m) = let r = i m in (Memᴰ.tail r.0, r.1)
    go false e i m = let r = i m in (Memᴰ.tail r.0, r.1)
filter_mem f [] x m = elim m [ ]

-- neither of them repeats
pub once_filter : (f : ℕ → Bool) (xs : List ℕ) → Once xs → Once (filter f xs)
once_filter f [] h = tt
once_filter f (x ∷ xs) h = go (f x) (once_filter f xs h.1)
  where
    go : (q : Bool) → Once (filter f xs) → Once (cond q (x ∷ filter f xs) (filter f xs))
    go true i = (λ m. h.0 (filter_mem f xs x m).0, i)
    go false i = i

pub once_down : (n : ℕ) → Once (down n)
once_down zero = tt
once_down (suc n) = (λ m. omega (arith, (down_mem n (suc n) m).1), once_down n)

-- a partner in l for r, no lighter
pub record Partner (w w' : ℕ → ℕ) (Q : ℕ → ℕ → Type 0) (l : List ℕ) (r : ℕ) : Type 0 where
  pub to : ℕ
  pub there : Memᴰ to l
  pub pair : Q r to
  pub lighter : w r ≤ w' to

pub sum_partners_le : (w w' : ℕ → ℕ) (Q : ℕ → ℕ → Type 0) → ((r s y : ℕ) → Q r y → Q s y → r ≡ s) → (rs : List ℕ) → Once rs → (l : List ℕ)
    → ((r : ℕ) → Memᴰ r rs → Partner w w' Q l r) → sum w rs ≤ sum w' l
sum_partners_le w w' Q inj [] f l h = omega arith
sum_partners_le w w' Q inj (x ∷ rs) f l h =
    let p = h x (Memᴰ.head refl) in
    omega (arith, sum_remove w' p.there, p.lighter, sum_partners_le w w' Q inj rs f.1 (remove p.there) (λ r m. move p r m (h r (Memᴰ.tail m))))
  where
    move : (p : Partner w w' Q l x) (r : ℕ) → Memᴰ r rs → Partner w w' Q l r → Partner w w' Q (remove p.there) r
    move p r m q = record { to = q.to; there = mem_remove p.there q.to (λ (e : q.to ≡ p.to). apart e) q.there; pair = q.pair; lighter = q.lighter }
      where
        apart : q.to ≡ p.to → ⊥
        apart e = f.0 (Memᴰ.cast (sym (inj r x p.to (rw e at q.pair) p.pair)) m)

pub sum_one : (xs : List ℕ) → sum (λ x. 1) xs ≡ length xs
sum_one [] = refl
sum_one (x ∷ xs) = omega (arith, sum_one xs)

pub sum_down : (n : ℕ) → sum (λ x. 1) (down n) ≡ n
sum_down zero = refl
sum_down (suc n) = omega (arith, sum_down n)

pub sum_edges : (d : Diagram) (rs : List ℕ) → sum (λ r. length (d.runs r)) rs ≡ edges d rs
sum_edges d [] = refl
sum_edges d (r ∷ rs) = omega (arith, sum_edges d rs)

-- two lists of the same elements, neither of which repeats, have the same sums
same_sums : (w : ℕ → ℕ) (rs ss : List ℕ) → Once rs → ((r : ℕ) → Memᴰ r rs → Memᴰ r ss) → sum w rs ≤ sum w ss
same_sums w rs ss o h = sum_partners_le w w (λ r s. r ≡ s) (λ r s y p q. p ∙ sym q) rs o ss (λ r m. record { to = r; there = h r m; pair = refl; lighter = omega arith })

pub same_counts : (d : Diagram) (rs ss : List ℕ) → Once rs → ((r : ℕ) → Memᴰ r rs → Memᴰ r ss) → (length rs ≤ length ss) × (edges d rs ≤ edges d ss)
same_counts d rs ss o h = (
  rw (sum_one rs, sum_one ss) at (same_sums (λ r. 1) rs ss o h),
  rw (sum_edges d rs, sum_edges d ss) at (same_sums (λ r. length (d.runs r)) rs ss o h),
)
