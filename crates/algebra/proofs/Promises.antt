-- What a reader of the demands looks for of the operations: theorems 4, 5 and 6. Theorems 1, 2, 3 and 7 are in the crate diagram, and
-- 8 in Starred. Readings, bounds and comparisons are document 01's. Assumes nothing.
use mathlib.Core.Path.{◌≡◌, refl, sym, ◌∙◌, ap}
use mathlib.Core.Bool.{Bool, true, false, cond, ◌&&◌, ◌||◌, and-false, false≢true}
use mathlib.Core.Logic.{◌↔◌, ◌⊎◌, inl, inr}
use Prim.Native.Nat.{ℕ, suc, ◌≤◌, ◌<◌, min, max}
use native.Mathlib.Omega.{arith}
use lib.Dec.{leb, ltb}
use lib.ListN.{length}
use lib.IntN.{ℤ}
use lib.Signed.{le_z_yes}
use borrow.Author.Tests.{lt-ltb, le-ltb}
use Rattle.ids.specs.Id.{FALSE}
use Rattle.ranges.specs.Line.{Key, lowest, position}
use Rattle.ranges.specs.Bounding.{Keyed, inside, Empty}
use Rattle.ranges.specs.Comparing.{compares}
use Rattle.ranges.specs.Ending.{first_place, last_place, empty, lower_of, upper_of}
use Rattle.ranges.specs.declared.bounds.Bound.{Bound}
use Rattle.ranges.specs.declared.bounds.Comparison.{Comparison}
use Rattle.ranges.proofs.Positions.{position_top, place_first, place_last, inside_positions, compares_bounds, keyed_lower, keyed_upper}
use Rattle.ranges.proofs.Nearest.{nearest, first_place_le_last, place_nearest, nearest_is, position_of_nearest, empty_exactly}
use Rattle.diagram.specs.Pieces.{Pieces, select}
use Rattle.diagram.specs.Shape.{Each, Rising}
use Rattle.diagram.specs.Table.{first_boolean, variables, top_of, Table, Assignment, value, Continues}
use Rattle.diagram.specs.Cofactor.{upd}
use Rattle.diagram.specs.Sound.{Known, Child, Sound}
use Rattle.diagram.specs.Reading.{Reading, positions, says, everywhere, SameBut, switched}
use Rattle.diagram.specs.Room.{width, edge_total, Fits}
use Rattle.diagram.proofs.Lookup.{value_false}
use Rattle.diagram.proofs.Readings.{range_top, positions_within, at_place, place_at_place, same_but_at_place, positions_same_but, positions_switched, readings_cover_assignments}
use Rattle.algebra.specs.Making.{create_node}
use Rattle.algebra.specs.Conditions.{between, from_range, comparison, from_bool}
use Rattle.algebra.specs.Conjunction.{and, or}
use Rattle.algebra.specs.Disjointness.{is_disjoint}
use Rattle.algebra.specs.Changing.{restrict, narrow, widen}
use Rattle.algebra.specs.Answering.{Answers, Answerable}
use Rattle.algebra.specs.Narrowing.{AtNearest, SameBefore, Steady, EmptyAnswer}
use Rattle.algebra.proofs.Made.{unchanged, made_answers}
use Rattle.algebra.proofs.Making.{created}
use Rattle.algebra.proofs.Conditioning.{select_between, from_range_made, comparison_made, from_bool_made}
use Rattle.algebra.proofs.Conjoining.{and_made, or_made}
use Rattle.algebra.proofs.Disjoint.{disjoint_answer, answer_yes, answer_no}
use Rattle.algebra.proofs.Changed.{fixed_made, narrowed_made, widened_made}
use Rattle.algebra.proofs.Emptied.{emptied_answers, steady_or_changing}
use Rattle.algebra.proofs.Exact.{no_smaller, room_exact, answer_held}

-- a range variable's position is that of its place, and a boolean one's that of its value
pub position_range : (v : ℕ) → v < first_boolean → (ρ : Reading) → positions ρ v ≡ position (ρ.place v)
position_range v h ρ = rw (lt-ltb v first_boolean h)

module _ (v : ℕ) (hv : v < first_boolean) (lower upper : Bound) (kl : Keyed lower) (ku : Keyed upper) where
  abbrev lo : ℕ
  lo = position (first_place lower)

  abbrev hi : ℕ
  hi = position (last_place upper)

  lo_top : lo ≤ top_of v
  lo_top = rw (range_top v hv) (position_top (first_place lower) (place_first lower kl))

  hi_top : hi ≤ top_of v
  hi_top = rw (range_top v hv) (position_top (last_place upper) (place_last upper ku))

  -- the pieces of a range say of each place whether it is inside
  between_inside : (ρ : Reading) → select (between lo hi (top_of v)) (positions ρ v) ≡ inside lower upper (ρ.place v)
  between_inside ρ =
      select_between lo hi (top_of v) (positions ρ v) (positions_within ρ v) ∙ ap (λ (p : ℕ). leb lo p && leb p hi) (position_range v hv ρ)
      ∙ sym (inside_positions lower upper kl ku (ρ.place v) (ρ.within v hv))

-- Two bounds are empty, or each reading has one with v at the nearest place inside them.
pub empty_or_nearest : (v : ℕ) → v < first_boolean → (lower upper : Bound) → Keyed lower → Keyed upper → Empty lower upper ⊎ ((ρ : Reading) → (σ : Reading) × AtNearest v lower upper ρ σ)
empty_or_nearest v hv lower upper kl ku = go (empty lower upper) refl
  where
    go : (b : Bool) → empty lower upper ≡ b → Empty lower upper ⊎ ((ρ : Reading) → (σ : Reading) × AtNearest v lower upper ρ σ)
    go true e = inl ((empty_exactly lower upper kl ku).0 e)
    go false e = inr (λ ρ.
        let p = ρ.place v in
        let q = nearest lower upper p in
        let h = place_nearest lower upper kl ku p (ρ.within v hv) in
        (at_place ρ v q h, (same_but_at_place ρ v q h, rw (place_at_place ρ v q h) (nearest_is lower upper kl ku e p (ρ.within v hv)))))

-- and what an id says there is one thing: two readings with v at the nearest place have it at the same.
pub nearest_says_once : (v : ℕ) → v < first_boolean → (lower upper : Bound) → Keyed lower → Keyed upper → (t : Table) (id : ℕ) (ρ σ τ : Reading)
    → AtNearest v lower upper ρ σ → AtNearest v lower upper ρ τ → says t σ id ≡ says t τ id
nearest_says_once v hv lower upper kl ku t id ρ σ τ n m = go (empty lower upper) refl
  where
    go : (b : Bool) → empty lower upper ≡ b → says t σ id ≡ says t τ id
    go true x = absurd (false≢true (sym ((empty_exactly lower upper kl ku).0 x (σ.place v) (σ.within v hv)) ∙ n.1.within))
    go false e = ap (λ (α : Assignment). value t α id) (there σ n ∙ sym (there τ m))
      where
        there : (π : Reading) → AtNearest v lower upper ρ π → positions π ≡ upd (positions ρ) v (max (position (first_place lower)) (min (position (ρ.place v)) (position (last_place upper))))
        there π k = positions_same_but ρ π v hv k.0 ∙ ap (upd (positions ρ) v) (position_of_nearest lower upper kl ku e (ρ.place v) (π.place v) (ρ.within v hv) (π.within v hv) k.1)

-- Theorem 4. From a sound table each operation makes a sound one that continues it, with an id that says what document 01 asks, and
-- no added node that the answer does not reach.
module _ (t : Table) (z : Sound t) where
  -- Step 3: a range by two bounds holds where the place is inside,
  pub from_range_answers : (v : ℕ) → v < first_boolean → (lower upper : Bound) → Keyed lower → Keyed upper → Answers t (λ ρ. inside lower upper (ρ.place v)) (from_range t v lower upper)
  from_range_answers v hv lower upper kl ku = made_answers (from_range_made t z v (omega arith) lower upper (lo_top v hv lower upper kl ku)) _ (between_inside v hv lower upper kl ku)

  -- a comparison where the place compares so with the key,
  pub comparison_answers : (v : ℕ) → v < first_boolean → (op : Comparison) (key : ℤ) → Key key → Answers t (λ ρ. compares op key (ρ.place v)) (comparison t v op key)
  comparison_answers v hv op key h =
      let kl = keyed_lower op key h in
      let ku = keyed_upper op key h in
      made_answers (comparison_made t z v (omega arith) op key (lo_top v hv (lower_of op key) (upper_of op key) kl ku) _ (λ α. refl)) _
      (λ ρ. rw (between_inside v hv (lower_of op key) (upper_of op key) kl ku ρ) (sym (compares_bounds op key (ρ.place v))))

  -- and a boolean where it is yes.
  pub from_bool_answers : (v : ℕ) → first_boolean ≤ v → v < variables → Answers t (λ ρ. ρ.holds v) (from_bool t v)
  from_bool_answers v lv hv = made_answers (from_bool_made t z v hv) _ (λ ρ. rw (le-ltb v first_boolean lv) (is_yes_lem (ρ.holds v)))
    where
      is_yes_lem : (b : Bool) → ltb (cond b 0 1) 1 ≡ b
      is_yes_lem true = refl
      is_yes_lem false = refl

  -- Step 4: the node of given edges says what the child at the position of its variable says.
  pub create_node_answers : (v : ℕ) → v < variables → (e : Pieces ℕ) → Rising 0 (top_of v) e → Each (Child t (suc v)) e → Answers t (λ ρ. says t ρ (select e (positions ρ v))) (create_node t v e)
  create_node_answers v hv e rise kids = made_answers (created t z v hv e rise kids).made _ (λ ρ. refl)

  -- Step 5: conjunction says both, and disjunction either.
  pub and_answers : (x y : ℕ) → Known t x → Known t y → Answers t (λ ρ. says t ρ x && says t ρ y) (and t x y)
  and_answers x y kx ky = made_answers (and_made t z x y kx ky) _ (λ ρ. refl)

  pub or_answers : (x y : ℕ) → Known t x → Known t y → Answers t (λ ρ. says t ρ x || says t ρ y) (or t x y)
  or_answers x y kx ky = made_answers (or_made t z x y kx ky) _ (λ ρ. refl)

  -- Step 6: disjointness is yes exactly when no reading makes both true.
  pub disjoint_exactly : (x y : ℕ) → Known t x → Known t y → (is_disjoint t x y ≡ true) ↔ ((ρ : Reading) → (says t ρ x && says t ρ y) ≡ false)
  disjoint_exactly x y kx ky = (λ e ρ. answer_yes (disjoint_answer t z x y kx ky) e (positions ρ), λ h. go (is_disjoint t x y) refl h)
    where
      go : (b : Bool) → is_disjoint t x y ≡ b → ((ρ : Reading) → (says t ρ x && says t ρ y) ≡ false) → b ≡ true
      go true e h = refl
      go false e h =
          let i = answer_no (disjoint_answer t z x y kx ky) e in
          absurd (false≢true (sym (readings_cover_assignments (λ α. (value t α x && value t α y) ≡ false) h i.assigned i.within) ∙ rw (i.left, i.right)))

  module _ (id : ℕ) (k : Known t id) where
    -- Step 7: restriction says what the id says with the boolean at the value; a range variable leaves the id.
    pub restrict_answers : (v : ℕ) → first_boolean ≤ v → v < variables → (b : Bool) → Answers t (λ ρ. says t (switched ρ v b) id) (restrict t v b id)
    unfolding restrict
    restrict_answers v lv hv b = rw (le-ltb v first_boolean lv) (made_answers (fixed_made t z v hv id k (cond b 0 1)) _ (λ ρ. sym (ap (λ (α : Assignment). value t α id) (positions_switched ρ v b lv))))

    pub restrict_range : (v : ℕ) → v < first_boolean → (b : Bool) → restrict t v b id ≡ (t, id)
    unfolding restrict
    restrict_range v hv b = rw (lt-ltb v first_boolean hv)

    module _ (v : ℕ) (hv : v < first_boolean) (lower upper : Bound) (kl : Keyed lower) (ku : Keyed upper) where
      -- Step 8: "the answer at a place is the old answer at the nearest place inside the bounds".
      pub narrow_answers : (near : Reading → Reading) → ((ρ : Reading) → AtNearest v lower upper ρ (near ρ)) → Answers t (λ ρ. says t (near ρ) id) (narrow t v lower upper id)
      unfolding narrow
      narrow_answers near n =
          rw e (made_answers (narrowed_made v (position (first_place lower)) (position (last_place upper)) (first_place_le_last lower upper kl ku e) (hi_top v hv lower upper kl ku) t z (omega arith) id k) _
          (λ ρ. sym (ap (λ (α : Assignment). value t α id) (positions_same_but ρ (near ρ) v hv (n ρ).0
          ∙ ap (upd (positions ρ) v) (position_of_nearest lower upper kl ku e (ρ.place v) ((near ρ).place v) (ρ.within v hv) ((near ρ).within v hv) (n ρ).1
          ∙ ap (λ (p : ℕ). max (position (first_place lower)) (min p (position (last_place upper)))) (sym (position_range v hv ρ)))))))
        where
          σ : Reading
          σ = near (everywhere lowest (le_z_yes tt, le_z_yes tt))

          go : (b : Bool) → empty lower upper ≡ b → b ≡ false
          go true x = absurd (false≢true (sym ((empty_exactly lower upper kl ku).0 x (σ.place v) (σ.within v hv)) ∙ (n (everywhere lowest (le_z_yes tt, le_z_yes tt))).1.within))
          go false x = refl

          e : empty lower upper ≡ false
          e = go (empty lower upper) refl

      -- "With empty bounds the answer is FALSE wherever, the earlier variables being fixed, the old answer still changes with the
      -- chosen one; elsewhere it is the old answer": every m that is so is what the answer says,
      pub narrow_empty_answers : Empty lower upper → (m : Reading → Bool) → EmptyAnswer t v id m → Answers t m (narrow t v lower upper id)
      unfolding narrow
      narrow_empty_answers e m h = rw ((empty_exactly lower upper kl ku).1 e) (emptied_answers t z v hv id k m h)

      -- and under every reading the old answer is steady, or two readings show that it still changes.
      pub still_changes_or_not : (ρ : Reading) → Steady t v ρ id ⊎ ((σ : Reading) × (τ : Reading) × SameBefore v ρ σ × SameBut v σ τ × (says t σ id ≡ says t τ id → ⊥))
      still_changes_or_not = steady_or_changing t z v hv id k

      -- Step 9: "old answer and inside the bounds. Empty bounds give FALSE."
      pub widen_answers : Answers t (λ ρ. says t ρ id && inside lower upper (ρ.place v)) (widen t v lower upper id)
      unfolding widen
      widen_answers = go (empty lower upper) refl
        where
          go : (b : Bool) → empty lower upper ≡ b → Answers t (λ ρ. says t ρ id && inside lower upper (ρ.place v)) (widen t v lower upper id)
          go true e = rw e (made_answers (unchanged t z 0 FALSE (omega arith, omega arith) (λ α. false) (λ α. value_false t α FALSE refl)) _
              (λ ρ. rw ((empty_exactly lower upper kl ku).0 e (ρ.place v) (ρ.within v hv)) (sym (and-false (says t ρ id)))))
          go false e = rw e (made_answers (widened_made v (position (first_place lower)) (position (last_place upper)) (lo_top v hv lower upper kl ku) (omega arith) t z id k) _
              (λ ρ. ap (λ (b : Bool). says t ρ id && b) (between_inside v hv lower upper kl ku ρ)))

-- Theorem 5, exact room. A sound table that continues the given one and holds an id that says the answer has at least as many nodes
-- and edges as the operation's own result, and for each node of that a node at least as wide;
pub result_is_smallest : (t : Table) (m : Reading → Bool) (out : Table × ℕ) → Answers t m out → (s : Table) → Sound s → Continues t s → (c : ℕ) → Known s c → ((ρ : Reading) → says s ρ c ≡ m ρ)
    → (length out.0 ≤ length s) × (edge_total out.0 ≤ edge_total s) × ((r : ℕ) → 0 < r → r ≤ length out.0 → (q : ℕ) × (0 < q) × (q ≤ length s) × (width out.0 r ≤ width s q))
result_is_smallest t m out x s zs g c k h = let a = no_smaller t m out x s zs g c k h in (a.nodes, a.edges, a.widths)

-- hence an answer fits a room exactly when the operation's own result does.
pub fits_exactly : (t : Table) (m : Reading → Bool) (out : Table × ℕ) → Answers t m out → (nodes edges : ℕ) → Answerable nodes edges t m ↔ Fits nodes edges out.0
fits_exactly t m out x nodes edges = room_exact t m out x nodes edges

-- Theorem 6, the memo law. If a table already holds an id that says the answer, the operation answers that id and adds nothing.
pub held_answer_is_given : (t : Table) → Sound t → (m : Reading → Bool) (out : Table × ℕ) → Answers t m out → (c : ℕ) → Known t c → ((ρ : Reading) → says t ρ c ≡ m ρ) → out ≡ (t, c)
held_answer_is_given t z m out x c k h = answer_held t z m out x c k h
