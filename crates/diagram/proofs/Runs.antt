-- Runs of positions: which one holds a position, the runs of pieces, and that no fewer runs than reduced pieces do. Assumes nothing.
use mathlib.Core.Path.{◌≡◌, refl, sym, ◌∙◌, ap}
use mathlib.Core.Bool.{Bool, true, false, cond, and-eq-true_iff, false≢true}
use mathlib.Core.List.{List, [], ◌∷◌, Memᴰ}
use Prim.Native.Nat.{ℕ, suc, ◌+◌, ◌-◌, ◌≤◌, ◌<◌}
use native.Mathlib.Omega.{arith}
use lib.Dec.{leb, ltb}
use lib.ListN.{length}
use borrow.Author.Tests.{leb-true, le-leb, lt-leb, ltb-true, ltb-false}
use Rattle.diagram.specs.Pieces.{Pieces, last, cut, select}
use Rattle.diagram.specs.Shape.{count, Each, Rising, Reduced}
use Rattle.diagram.specs.Ordered.{Run, holds, holders, runs}
use Rattle.diagram.proofs.Piecewise.{select_left, select_right, after_cut}
use Rattle.diagram.proofs.Counting.{remove, length_remove, mem_remove, remove_mem}

-- the test of a run
pub holds_from : (x : Run) (p : ℕ) → holds x p ≡ true → (x.from ≤ p) × (p ≤ x.upto)
holds_from x p h = let i = (and-eq-true_iff (leb x.from p) (leb p x.upto)).0 h in (leb-true x.from p i.0, leb-true p x.upto i.1)

pub from_holds : (x : Run) (p : ℕ) → x.from ≤ p → p ≤ x.upto → holds x p ≡ true
from_holds x p h l = rw (le-leb x.from p h, le-leb p x.upto l)

below_holds : (x : Run) (p : ℕ) → p < x.from → holds x p ≡ false
below_holds x p h = rw (lt-leb x.from p h)

above_holds : (x : Run) (p : ℕ) → x.from ≤ p → x.upto < p → holds x p ≡ false
above_holds x p h l = rw (le-leb x.from p h, lt-leb p x.upto l)

-- the child at a position: that of the run that holds it
abbrev pub child_at : List Run → ℕ → ℕ
child_at [] p = 0
child_at (x ∷ xs) p = cond (holds x p) x.child (child_at xs p)

-- a run of a list that holds a position
pub record Held (xs : List Run) (p : ℕ) : Type 0 where
  pub run : Run
  pub there : Memᴰ run xs
  pub holding : holds run p ≡ true

none_holds : (xs : List Run) (p : ℕ) → holders xs p ≡ 0 → (x : Run) → Memᴰ x xs → holds x p ≡ true → ⊥
none_holds [] p n x m h = elim m [ ]
none_holds (y ∷ ys) p n x m h = go (holds y p) refl n m (λ k i. none_holds ys p k x i h)
  where
    go : (b : Bool) → holds y p ≡ b → cond b (suc (holders ys p)) (holders ys p) ≡ 0 → Memᴰ x (y ∷ ys) → (holders ys p ≡ 0 → Memᴰ x ys → ⊥) → ⊥
    go true e n m rec = omega arith
    go false e n (Memᴰ.head q) rec = false≢true (sym e ∙ sym (ap (λ (z : Run). holds z p) q) ∙ h)
    go false e n (Memᴰ.tail m) rec = rec n m

-- where one run holds a position, that run's child is the child there
pub child_held : (xs : List Run) (p : ℕ) → holders xs p ≡ 1 → (x : Run) → Memᴰ x xs → holds x p ≡ true → child_at xs p ≡ x.child
child_held (y ∷ ys) p n x m h = go (holds y p) refl n m (λ k i. child_held ys p k x i h)
  where
    go : (b : Bool) → holds y p ≡ b → cond b (suc (holders ys p)) (holders ys p) ≡ 1 → Memᴰ x (y ∷ ys) → (holders ys p ≡ 1 → Memᴰ x ys → child_at ys p ≡ x.child)
        → cond b y.child (child_at ys p) ≡ x.child
    go true e n (Memᴰ.head q) rec = ap (λ (z : Run). z.child) (sym q)
    go true e n (Memᴰ.tail m) rec = absurd (none_holds ys p (omega arith) x m h)
    go false e n (Memᴰ.head q) rec = absurd (false≢true (sym e ∙ sym (ap (λ (z : Run). holds z p) q) ∙ h))
    go false e n (Memᴰ.tail m) rec = rec n m
child_held [] p n x m h = elim m [ ]

pub held : (xs : List Run) (p n : ℕ) → holders xs p ≡ suc n → Held xs p
held [] p n h = absurd (omega arith)
held (y ∷ ys) p n h = go (holds y p) refl h (held ys p n)
  where
    go : (b : Bool) → holds y p ≡ b → cond b (suc (holders ys p)) (holders ys p) ≡ suc n → (holders ys p ≡ suc n → Held ys p) → Held (y ∷ ys) p
    go true e h rec = record { run = y; there = Memᴰ.head refl; holding = e }
    go false e h rec = let i = rec h in record { run = i.run; there = Memᴰ.tail i.there; holding = i.holding }

-- the runs of pieces
pub length_runs : (b t : ℕ) (e : Pieces ℕ) → length (runs b t e) ≡ count e
length_runs b t (last c) = refl
length_runs b t (cut c k e) = ap suc (length_runs k t e)

holders_below : (b t : ℕ) (e : Pieces ℕ) (p : ℕ) → Rising b t e → p < b → holders (runs b t e) p ≡ 0
holders_below b t (last c) p r h = rw (below_holds (record { from = b; upto = t; child = c }) p h)
holders_below b t (cut c k e) p r h = rw (below_holds (record { from = b; upto = k - 1; child = c }) p h) (holders_below k t e p r.2 (omega arith))

pub holders_runs : (b t : ℕ) (e : Pieces ℕ) (p : ℕ) → Rising b t e → b ≤ p → p ≤ t → holders (runs b t e) p ≡ 1
holders_runs b t (last c) p r h l = rw (from_holds (record { from = b; upto = t; child = c }) p h l)
holders_runs b t (cut c k e) p r h l = go (ltb p k) refl (holders_runs k t e p r.2)
  where
    x : Run
    x = record { from = b; upto = k - 1; child = c }

    go : (q : Bool) → ltb p k ≡ q → (k ≤ p → p ≤ t → holders (runs k t e) p ≡ 1) → cond (holds x p) (suc (holders (runs k t e) p)) (holders (runs k t e) p) ≡ 1
    go true q rec = rw (from_holds x p h (omega (arith, ltb-true p k q)), holders_below k t e p r.2 (ltb-true p k q))
    go false q rec = rw (above_holds x p h (omega (arith, ltb-false p k q))) (rec (ltb-false p k q) l)

-- each run of pieces is some positions with one value
pub record Piece (b t : ℕ) (e : Pieces ℕ) (x : Run) : Type 0 where
  pub low : b ≤ x.from
  pub rising : x.from ≤ x.upto
  pub high : x.upto ≤ t
  pub child_is : select e x.from ≡ x.child

pub run_piece : (b t : ℕ) (e : Pieces ℕ) → Rising b t e → (x : Run) → Memᴰ x (runs b t e) → Piece b t e x
run_piece b t (last c) r x (Memᴰ.tail m) = elim m [ ]
run_piece b t (last c) r x (Memᴰ.head q) = rw q (record { low = omega arith; rising = r; high = omega arith; child_is = refl })
run_piece b t (cut c k e) r x (Memᴰ.head q) = rw q (record { low = omega arith; rising = omega arith; high = omega arith; child_is = select_left c k e b r.0 })
run_piece b t (cut c k e) r x (Memᴰ.tail m) =
    let i = run_piece k t e r.2 x m in
    let l : k ≤ x.from = i.low in
    record { low = omega arith; rising = i.rising; high = i.high; child_is = select_right c k e x.from l ∙ i.child_is }

pub run_each : (P : ℕ → Type 0) (b t : ℕ) (e : Pieces ℕ) → Each P e → (x : Run) → Memᴰ x (runs b t e) → P x.child
run_each P b t (last c) h x (Memᴰ.tail m) = elim m [ ]
run_each P b t (last c) h x (Memᴰ.head q) = rw q h
run_each P b t (cut c k e) h x (Memᴰ.head q) = rw q h.0
run_each P b t (cut c k e) h x (Memᴰ.tail m) = run_each P k t e h.1 x m

pub child_runs : (b t : ℕ) (e : Pieces ℕ) (p : ℕ) → Rising b t e → b ≤ p → p ≤ t → child_at (runs b t e) p ≡ select e p
child_runs b t (last c) p r h l = rw (from_holds (record { from = b; upto = t; child = c }) p h l)
child_runs b t (cut c k e) p r h l = go (ltb p k) refl (child_runs k t e p r.2)
  where
    x : Run
    x = record { from = b; upto = k - 1; child = c }

    go : (q : Bool) → ltb p k ≡ q → (k ≤ p → p ≤ t → child_at (runs k t e) p ≡ select e p) → cond (holds x p) c (child_at (runs k t e) p) ≡ cond q c (select e p)
    go true q rec = rw (from_holds x p h (omega (arith, ltb-true p k q)))
    go false q rec = rw (above_holds x p h (omega (arith, ltb-false p k q))) (rec (ltb-false p k q) l)

-- reduced pieces on as many positions are no more than their number
pub count_most : (b t : ℕ) (e : Pieces ℕ) → Reduced b t e → count e + b ≤ suc t
count_most b t (last c) h = omega arith
count_most b t (cut c k e) h = omega (arith, count_most k t e h.3, h.0)

-- runs that hold every position, and on each of which the pieces have one value, are no fewer than the pieces
pub no_fewer : (b t : ℕ) (e : Pieces ℕ) → Reduced b t e → (xs : List Run) → ((p : ℕ) → b ≤ p → p ≤ t → Held xs p)
    → ((x : Run) → Memᴰ x xs → (p q : ℕ) → holds x p ≡ true → holds x q ≡ true → b ≤ p → p ≤ t → b ≤ q → q ≤ t → select e p ≡ select e q)
    → count e ≤ length xs
no_fewer b t (last c) r xs cover one = let i = cover b (omega arith) r in omega (arith, length_remove i.there)
no_fewer b t (cut c k e) r xs cover one =
    omega (
      arith,
      length_remove i.there,
      no_fewer k t e r.3 (remove i.there) (λ p h l. stays p h l (cover p (omega arith) l))
          (λ y m p q yp yq h l h' l'. sym (select_right c k e p h) ∙ one y (remove_mem i.there y m) p q yp yq (omega arith) l (omega arith) l' ∙ select_right c k e q h'),
    )
  where
    i : Held xs b
    i = cover b (omega arith) (omega arith)

    -- the run that holds b ends before the first cut
    ends_before : (p : ℕ) → k ≤ p → holds i.run p ≡ true → ⊥
    ends_before p h q =
        let f = holds_from i.run b i.holding in
        let g = holds_from i.run p q in
        after_cut b t c k e r (sym (select_left c k e b r.0)
        ∙ one i.run i.there b k i.holding (from_holds i.run k (omega (arith, f.0)) (omega (arith, g.1))) (omega arith) (omega arith) (omega arith) r.1)

    stays : (p : ℕ) → k ≤ p → p ≤ t → Held xs p → Held (remove i.there) p
    stays p h l j = record {
      run = j.run;
      there = mem_remove i.there j.run (λ (q : j.run ≡ i.run). ends_before p h (sym (ap (λ (z : Run). holds z p) q) ∙ j.holding)) j.there;
      holding = j.holding;
    }
