-- The order of two nodes as code finds it: number by number, until one is smaller. Assumes nothing.
use mathlib.Core.Path.{◌≡◌, sym, ◌∙◌, ap, subst}
use mathlib.Core.Bool.{true, false}
use mathlib.Core.List.{List, ◌∷◌}
use mathlib.Core.Logic.{⊎_elim}
use Prim.Native.Nat.{ℕ, zero, suc, ◌+◌, ◌-◌, ◌≤◌, ◌<◌}
use native.Mathlib.Omega.{arith}
use borrow.Author.Tests.{lt-ltb, le-ltb}
use lib.Dec.{ltb}
use lib.IntN.{ℤ}
use lib.Signed.{◌<ℤ◌}
use Rattle.ranges.specs.Line.{Cut}
use Rattle.chains.specs.Lexical.{less, run}
use Rattle.chains.proofs.Lexical.{less_smaller, less_larger, less_equal}
use Rattle.table.specs.Layout.{var_at, count_at, first_at, kid_at, cut_at, cut_position, Store}
use Rattle.table.specs.Indexed.{hash_at, key_at, precedes}
use Rattle.table.specs.Lent.{Blank, Rules}
use Rattle.table.specs.Checking.{run_at}
use Rattle.table.proofs.Laws as laws
use Rattle.table.proofs.CutPositions.{cut_position_up, cut_position_down, zero_cut_lem}

-- the first two numbers decide where they differ
differs : {x y x' y' : ℕ} (xs ys : List ℕ) → x ≡ x' → y ≡ y' → (x ≡ y → ⊥) → ltb x y ≡ less (x' ∷ xs) (y' ∷ ys)
differs {x} {y} xs ys p q d = (λ i. ltb (p i) (q i)) ∙ go (laws.lt_eq_or_gt _ _) (λ e. d (p ∙ (e ∙ sym q)))
  where
    go : {a b : ℕ} → laws.Order a b → (a ≡ b → ⊥) → ltb a b ≡ less (a ∷ xs) (b ∷ ys)
    go {a} {b} (laws.less h) n = lt-ltb a b h ∙ sym (less_smaller _ _ _ _ h)
    go {a} {b} (laws.equal e) n = absurd (n e)
    go {a} {b} (laws.more h) n = le-ltb a b (omega arith) ∙ sym (less_larger _ _ _ _ h)

-- The runs of edges, from edge j on.
module _ (children : List ℕ) (cuts : List ℤ) where
  opens : (a j n : ℕ) → j < n → run_at children cuts a j (n - j) ≡ kid_at children (a + j) ∷ (cut_position (cut_at cuts (a + j)) ∷ run_at children cuts a (j + 1) (n - (j + 1)))
  unfolding run
  opens a j n l = let e : n - j ≡ suc (n - (j + 1)) = omega arith in let f : suc j ≡ j + 1 = omega arith in
      ap (λ (k : ℕ). run_at children cuts a j k) e ∙ ap (λ (i : ℕ). kid_at children (a + j) ∷ (cut_position (cut_at cuts (a + j)) ∷ run_at children cuts a i (n - (j + 1)))) f

  module _ (a b j n : ℕ) (l : j < n) where
    both : less (run_at children cuts a j (n - j)) (run_at children cuts b j (n - j)) ≡ less (kid_at children (a + j) ∷ (cut_position (cut_at cuts (a + j)) ∷ run_at children cuts a (j + 1) (n - (j + 1)))) (kid_at children (b + j) ∷ (cut_position (cut_at cuts (b + j)) ∷ run_at children cuts b (j + 1) (n - (j + 1))))
    both = λ i. less (opens a j n l i) (opens b j n l i)

    pub child_differs : {x y : ℕ} → x ≡ kid_at children (a + j) → y ≡ kid_at children (b + j) → (x ≡ y → ⊥) → ltb x y ≡ less (run_at children cuts a j (n - j)) (run_at children cuts b j (n - j))
    child_differs p q d = differs _ _ p q d ∙ sym both

    module _ (e : kid_at children (a + j) ≡ kid_at children (b + j)) (y : Cut (cut_at cuts (a + j))) (z : Cut (cut_at cuts (b + j))) where
      pub cut_lower : cut_at cuts (a + j) <ℤ cut_at cuts (b + j) → less (run_at children cuts a j (n - j)) (run_at children cuts b j (n - j)) ≡ true
      cut_lower h = both ∙ (less_equal _ _ _ _ e ∙ less_smaller _ _ _ _ (cut_position_up _ _ y z h))

      pub cut_higher : cut_at cuts (b + j) <ℤ cut_at cuts (a + j) → less (run_at children cuts a j (n - j)) (run_at children cuts b j (n - j)) ≡ false
      cut_higher h = both ∙ (less_equal _ _ _ _ e ∙ less_larger _ _ _ _ (cut_position_up _ _ z y h))

      -- an edge that is the same leaves it to the next
      pub edge_same : (cut_at cuts (a + j) <ℤ cut_at cuts (b + j) → ⊥) → (cut_at cuts (b + j) <ℤ cut_at cuts (a + j) → ⊥) → less (run_at children cuts a j (n - j)) (run_at children cuts b j (n - j)) ≡ less (run_at children cuts a (j + 1) (n - (j + 1))) (run_at children cuts b (j + 1) (n - (j + 1)))
      edge_same p q = both ∙ (less_equal _ _ _ _ e ∙ less_equal _ _ _ _ level)
        where
          level : cut_position (cut_at cuts (a + j)) ≡ cut_position (cut_at cuts (b + j))
          level = go (laws.lt_eq_or_gt (cut_position (cut_at cuts (a + j))) (cut_position (cut_at cuts (b + j))))
            where
              go : laws.Order (cut_position (cut_at cuts (a + j))) (cut_position (cut_at cuts (b + j))) → cut_position (cut_at cuts (a + j)) ≡ cut_position (cut_at cuts (b + j))
              go (laws.less h) = absurd (p (cut_position_down _ _ y z h))
              go (laws.equal h) = h
              go (laws.more h) = absurd (q (cut_position_down _ _ z y h))

  -- no edge is left: neither comes before the other
  pub none_left : (a b j n : ℕ) → n ≤ j → less (run_at children cuts a j (n - j)) (run_at children cuts b j (n - j)) ≡ false
  unfolding less run
  none_left a b j n h = let e : n - j ≡ 0 = omega arith in ap (λ (k : ℕ). less (run_at children cuts a j k) (run_at children cuts b j k)) e

-- Two nodes.
module _ (st : Store) (m n : ℕ) where
  pub hash_differs : {g h : ℕ} → g ≡ hash_at st m → h ≡ hash_at st n → (g ≡ h → ⊥) → ltb g h ≡ precedes st m n
  unfolding key_at
  hash_differs p q d = differs _ _ p q d

  module _ (e : hash_at st m ≡ hash_at st n) where
    pub var_differs : {v w : ℕ} → v ≡ var_at st.nodes m → w ≡ var_at st.nodes n → (v ≡ w → ⊥) → ltb v w ≡ precedes st m n
    unfolding key_at
    var_differs p q d = differs _ _ p q d ∙ sym (less_equal _ _ _ _ e)

    module _ (d : var_at st.nodes m ≡ var_at st.nodes n) where
      pub count_differs : {c k : ℕ} → c ≡ count_at st.nodes m → k ≡ count_at st.nodes n → (c ≡ k → ⊥) → ltb c k ≡ precedes st m n
      unfolding key_at
      count_differs p q f = differs _ _ p q f ∙ sym (less_equal _ _ _ _ e ∙ less_equal _ _ _ _ d)

      -- the edges decide
      pub edges_left : {a b c : ℕ} → a ≡ first_at st.nodes m → b ≡ first_at st.nodes n → c ≡ count_at st.nodes m → c ≡ count_at st.nodes n → precedes st m n ≡ less (run_at st.children st.cuts a 0 c) (run_at st.children st.cuts b 0 c)
      unfolding key_at
      edges_left p q r s = less_equal _ _ _ _ e ∙ (less_equal _ _ _ _ d ∙ (less_equal _ _ _ _ (sym r ∙ s) ∙ sym (λ i. less (run_at st.children st.cuts (p i) 0 (r i)) (run_at st.children st.cuts (q i) 0 (s i)))))

-- The cuts of a record that keeps the rules are cuts: where there is none the word is 0.
all_cuts : (st : Store) (n : ℕ) → Rules st n → (j : ℕ) → j < count_at st.nodes n → Cut (cut_at st.cuts (first_at st.nodes n + j))
all_cuts st n r j l = ⊎_elim range (λ h. bool j (r.booleans h) (omega (arith, r.two h))) (laws.lt_or_le (var_at st.nodes n) 32)
  where
    range : var_at st.nodes n < 32 → Cut (cut_at st.cuts (first_at st.nodes n + j))
    range h = ⊎_elim (λ k. (r.ranges h).within j k) (λ g. let e : first_at st.nodes n + j ≡ first_at st.nodes n + (count_at st.nodes n - 1) = omega arith in zero_cut_lem (ap (cut_at st.cuts) e ∙ (r.ranges h).last)) (laws.lt_or_le (j + 1) (count_at st.nodes n))

    bool : (j : ℕ) → Blank st.cuts (first_at st.nodes n) → j < 2 → Cut (cut_at st.cuts (first_at st.nodes n + j))
    bool zero b k = let e : first_at st.nodes n + 0 ≡ first_at st.nodes n = omega arith in zero_cut_lem (ap (cut_at st.cuts) e ∙ b.high)
    bool (suc zero) b k = zero_cut_lem b.low
    bool (suc (suc j)) b k = absurd (omega arith)

pub all_cuts_at : (st : Store) (n : ℕ) → Rules st n → {e c : ℕ} → e ≡ first_at st.nodes n → c ≤ count_at st.nodes n → (j : ℕ) → j < c → Cut (cut_at st.cuts (e + j))
all_cuts_at st n r p q j l = subst (λ (i : ℕ). Cut (cut_at st.cuts (i + j))) (sym p) (all_cuts st n r j (omega arith))
