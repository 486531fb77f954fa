-- An operation done on numbered children one after the other, from the first or from the last. Assumes nothing.
use mathlib.Core.Path.{◌≡◌, refl, sym, ◌∙◌, ap, ap₂, subst}
use mathlib.Core.Bool.{Bool, true, false, cond}
use Prim.Native.Nat.{ℕ, zero, suc, ◌+◌, ◌-◌, ◌≤◌}
use native.Mathlib.Omega.{arith}
use Rattle.diagram.specs.Pieces.{Pieces, last, cut}
use Rattle.diagram.specs.Shape.{Each, Rising, run}
use Rattle.diagram.specs.Table.{Table, Assignment, Continues, same}
use Rattle.diagram.specs.Sound.{Child, Sound}
use Rattle.diagram.specs.Room.{Fits}
use Rattle.diagram.proofs.Continuing.{continues_trans, continues_child}
use Rattle.algebra.specs.Conjunction.{walk, walk_back, walk_in, create_over}
use Rattle.algebra.proofs.Made.{Made}
use Rattle.merging.proofs.Fitting.{fits_before, create_continues}

-- the child whose turn it is after j others, of the children 0 to n
unfoldable pub turn : Bool → ℕ → ℕ → ℕ
turn back n j = cond back (n - j) j

-- the children are c 0 to c n
module _ (f : Table → ℕ → Table × ℕ) (t : Table) (back : Bool) (n : ℕ) (c : ℕ → ℕ) where
  -- the table after j of them, and the answer of the next
  unfoldable pub table_at : ℕ → Table
  table_at zero = t
  table_at (suc j) = (f (table_at j) (c (turn back n j))).0

  unfoldable pub answer_at : ℕ → ℕ
  answer_at j = (f (table_at j) (c (turn back n j))).1

  pub table_next : (j : ℕ) → table_at (suc j) ≡ (f (table_at j) (c (turn back n j))).0
  unfolding table_at
  table_next j = refl

  pub answer_at_turn : (j : ℕ) → answer_at j ≡ (f (table_at j) (c (turn back n j))).1
  unfolding answer_at
  answer_at_turn j = refl

-- answers z, each in its child's place
module _ (f : Table → ℕ → Table × ℕ) (t : Table) (n : ℕ) (c z k : ℕ → ℕ) where
  turns_on : ((j : ℕ) → j ≤ n → z (turn false n j) ≡ answer_at f t false n c j) → (i m : ℕ) → i + m ≤ n
      → walk f (table_at f t false n c i) (run c k i m) ≡ (table_at f t false n c (suc (i + m)), run z k i m)
  unfolding walk run table_at answer_at turn
  turns_on h i zero l =
      let e : i + 0 ≡ i = omega arith in
      ap₂ (λ (s : Table) (x : ℕ). (s, last x)) (ap (table_at f t false n c) (ap suc (sym e))) (sym (h i (omega arith)))
  turns_on h i (suc m) l =
      let e : suc i + m ≡ i + suc m = omega arith in
      ap₂ (λ (w : Table × Pieces ℕ) (x : ℕ). (w.0, cut x (k i) w.1)) (turns_on h (suc i) m (omega arith)) (sym (h i (omega arith)))
      ∙ ap (λ (j : ℕ). (table_at f t false n c (suc j), cut (z i) (k i) (run z k (suc i) m))) e

  turns_back : ((j : ℕ) → j ≤ n → z (turn true n j) ≡ answer_at f t true n c j) → (i m : ℕ) → i + m ≡ n
      → walk_back f t (run c k i m) ≡ (table_at f t true n c (suc m), run z k i m)
  unfolding walk_back run table_at answer_at turn
  turns_back h i zero l =
      let e : n - 0 ≡ i = omega arith in
      ap (λ (j : ℕ). ((f t (c j)).0, last (f t (c j)).1)) (sym e) ∙ ap (λ (x : ℕ). ((f t (c (n - 0))).0, last x)) (sym (h 0 (omega arith))) ∙ ap (λ (j : ℕ). ((f t (c (n - 0))).0, last (z j))) e
  turns_back h i (suc m) l =
      let e : n - suc m ≡ i = omega arith in
      ap (λ (w : Table × Pieces ℕ). ((f w.0 (c i)).0, cut (f w.0 (c i)).1 (k i) w.1)) (turns_back h (suc i) m (omega arith))
      ∙ ap (λ (j : ℕ). ((f (table_at f t true n c (suc m)) (c j)).0, cut (f (table_at f t true n c (suc m)) (c j)).1 (k i) (run z k (suc i) m))) (sym e)
      ∙ ap (λ (x : ℕ). ((f (table_at f t true n c (suc m)) (c (n - suc m))).0, cut x (k i) (run z k (suc i) m))) (sym (h (suc m) (omega arith)))
      ∙ ap (λ (j : ℕ). ((f (table_at f t true n c (suc m)) (c (n - suc m))).0, cut (z j) (k i) (run z k (suc i) m))) e

  -- all turns are the walk
  pub walk_run_by_turns : (back : Bool) → ((j : ℕ) → j ≤ n → z (turn back n j) ≡ answer_at f t back n c j) → walk_in back f t (run c k 0 n) ≡ (table_at f t back n c (suc n), run z k 0 n)
  unfolding walk_in table_at
  walk_run_by_turns true h = turns_back h 0 n (omega arith)
  walk_run_by_turns false h =
      let e : 0 + n ≡ n = omega arith in
      turns_on h 0 n (omega arith) ∙ ap (λ (j : ℕ). (table_at f t false n c (suc j), run z k 0 n)) e

-- a child is there at its turn
pub turn_inside : (back : Bool) (n : ℕ) (j : ℕ) → j ≤ n → turn back n j ≤ n
unfolding turn
turn_inside true n j h = omega arith
turn_inside false n j h = h

-- no two have one turn
pub turn_inj : (back : Bool) (n : ℕ) (i j : ℕ) → i ≤ n → j ≤ n → turn back n i ≡ turn back n j → i ≡ j
unfolding turn
turn_inj true n i j h l e = omega arith
turn_inj false n i j h l e = e

-- and the turn of a child's turn is the child
pub turn_turn : (back : Bool) (n j : ℕ) → j ≤ n → turn back n (turn back n j) ≡ j
unfolding turn
turn_turn true n j h = omega arith
turn_turn false n j h = refl

-- with an operation f as Walking has it, on children that it may be done on
module _ (f : Table → ℕ → Table × ℕ) (t : Table) (back : Bool) (n : ℕ) (c : ℕ → ℕ) (z : Sound t) (u : ℕ) (m : ℕ → Assignment → Bool)
    (ok : (s : Table) → Sound s → Continues t s → (a : ℕ) → Child t u a → Made s u (m a) (f s a)) (kids : (i : ℕ) → i ≤ n → Child t u (c i)) where
  abbrev T : ℕ → Table
  T j = table_at f t back n c j

  -- each table is sound and continues the ones before it,
  pub turned : (j : ℕ) → j ≤ suc n → Sound (T j) × Continues t (T j)
  unfolding table_at
  turned zero l = (z, same)
  turned (suc j) l =
      let x = turned j (omega arith) in
      let y = ok (T j) x.0 x.1 (c (turn back n j)) (kids (turn back n j) (turn_inside back n j (omega arith))) in
      (y.sound, continues_trans x.1 y.continues)

  turn_made : (j : ℕ) → j ≤ n → Made (T j) u (m (c (turn back n j))) (f (T j) (c (turn back n j)))
  turn_made j l =
      let x = turned j (omega arith) in
      ok (T j) x.0 x.1 (c (turn back n j)) (kids (turn back n j) (turn_inside back n j l))

  pub turned_later : (i d : ℕ) → i + d ≤ suc n → Continues (T i) (T (i + d))
  turned_later i zero l = let e : i ≡ i + 0 = omega arith in subst (λ (j : ℕ). Continues (T i) (T j)) e same
  turned_later i (suc d) l =
      let e : suc (i + d) ≡ i + suc d = omega arith in
      continues_trans (turned_later i d (omega arith)) (subst (λ (j : ℕ). Continues (T (i + d)) (T j)) e (subst (Continues (T (i + d))) (sym (table_next f t back n c (i + d))) (turn_made (i + d) (omega arith)).continues))

  -- the answers are known to the last of them,
  pub answer_child : (j : ℕ) → j ≤ n → Child (T (suc n)) u (answer_at f t back n c j)
  answer_child j l =
      let e : suc j + (n - j) ≡ suc n = omega arith in
      subst (λ (i : ℕ). Child (T i) u (answer_at f t back n c j)) e (continues_child (turned_later (suc j) (n - j) (omega arith)) u (answer_at f t back n c j)
      (subst (λ (s : Table). Child s u (answer_at f t back n c j)) (sym (table_next f t back n c j)) (subst (Child (f (T j) (c (turn back n j))).0 u) (sym (answer_at_turn f t back n c j)) (turn_made j l).child)))

  -- and what does not fit at a turn does not fit at the end.
  pub not_fits_turn_full : (j : ℕ) → j ≤ n → (v : ℕ) (e : Pieces ℕ) (nodes edges : ℕ) → (Fits nodes edges (f (T j) (c (turn back n j))).0 → ⊥) → Fits nodes edges (create_over v (T (suc n), e)).0 → ⊥
  not_fits_turn_full j l v e nodes edges no_room fit =
      let q : suc j + (n - j) ≡ suc n = omega arith in
      let g : Continues (T (suc j)) (T (suc n)) = subst (λ (i : ℕ). Continues (T (suc j)) (T i)) q (turned_later (suc j) (n - j) (omega arith)) in
      no_room (subst (Fits nodes edges) (table_next f t back n c j) (fits_before (continues_trans g (create_continues (T (suc n)) v e)) nodes edges fit))

-- pieces by their numbers: all of them, and that rising is a matter of cuts
pub each_of_run : (P : ℕ → Type 0) (c k : ℕ → ℕ) (i m : ℕ) → ((j : ℕ) → i ≤ j → j ≤ i + m → P (c j)) → Each P (run c k i m)
unfolding run
each_of_run P c k i zero h = h i (omega arith) (omega arith)
each_of_run P c k i (suc m) h = (h i (omega arith) (omega arith), each_of_run P c k (suc i) m (λ j a b. h j (omega arith) (omega arith)))

pub rising_same_cuts : (c d k : ℕ → ℕ) (b t i m : ℕ) → Rising b t (run c k i m) → Rising b t (run d k i m)
unfolding run
rising_same_cuts c d k b t i zero r = r
rising_same_cuts c d k b t i (suc m) r = (r.0, r.1, rising_same_cuts c d k (k i) t (suc i) m r.2)
