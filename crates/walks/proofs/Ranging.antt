-- The merge at a range variable: what its loop keeps, and each of its steps. Assumes nothing.
use mathlib.Core.Path.{◌≡◌, refl, sym, ◌∙◌, ap, ap₂, subst}
use mathlib.Core.Bool.{Bool, true, false, cond}
use mathlib.Core.List.{List}
use mathlib.Core.Logic.{◌⊎◌, inl, inr, ⊎_elim}
use native.Mathlib.Decide.{ℕ_discrete}
use Prim.Native.Nat.{ℕ, suc, ◌+◌, ◌-◌, ◌/◌, ◌≤◌, ◌<◌}
use native.Mathlib.Omega.{arith}
use lib.Dec.{ltb}
use lib.ListN.{length, set, length-set}
use lib.Seq.{get_or-set_same, get_or-set_other}
use lib.IntN.{ℤ}
use borrow.Author.Tests.{lt-ltb, ltb-true, ltb-false}
use Rattle.ids.specs.declared.NodeId.{NodeId}
use Rattle.diagram.specs.Pieces.{Pieces, last, cut}
use Rattle.diagram.specs.Shape.{first, Each, Rising, Reduced, run}
use Rattle.diagram.specs.Table.{first_boolean, top_of, Table, same, most_edges}
use Rattle.diagram.specs.Room.{Fits}
use Rattle.diagram.specs.Sound.{Child}
use Rattle.diagram.proofs.Continuing.{continues_child}
use Rattle.algebra.specs.Overlay.{overlay, merge}
use Rattle.algebra.specs.Making.{settle}
use Rattle.algebra.specs.Conjunction.{walk, walk_in, create_over}
use Rattle.algebra.proofs.Overlays.{rising_overlay, each_overlay, reduced_merge, each_merge}
use Rattle.algebra.proofs.Walking.{Walked, walk_makes_each}
use Rattle.table.specs.Layout.{room, Store}
use Rattle.table.proofs.Laws.{lt_or_le, not_false_and_true}
use Rattle.merging.proofs.Gluing.{Slot, Put}
use Rattle.merging.proofs.Stepping.{Going, going_none, going_less, going_same, going_more, going_last_cut, going_cut_last, going_ends_whole, going_below_count}
use Rattle.merging.proofs.Fitting.{not_fits_too_wide, not_fits_child_full}
use Rattle.views.specs.declared.View.{View}
use Rattle.views.specs.Seeing.{Asked, Inside, beyond, child_seen, cut_seen, seen}
use Rattle.views.proofs.Sights.{seen_last, seen_cut, rising_cut, child_seen_stays, cut_seen_stays, cut_seen_range, first_seen}
use Rattle.making.specs.declared.edges.Edge.{Edge}
use Rattle.making.specs.declared.edges.Edges as built
use Rattle.table.specs.declared.lent.Used.{Used}
use Rattle.making.specs.Made.{Made}
use Rattle.making.specs.Building.{none, child_in, cut_in, pieces_of}
use Rattle.making.specs.Outcome.{Stays, Outcome, Buildable, table_of}
use Rattle.making.proofs.Kept.{stays_refl, stays_trans, stays_continues}
use Rattle.walks.specs.Walking.{Ready, Stepped, Sides, both, Advances, stopped, left, right, level}
use Rattle.walks.proofs.Composing.{lent_sound, ready_after_step, stepped_then_outcome, stepped_equal_want}
use Rattle.walks.proofs.Walk.{Walk}
use Rattle.walks.proofs.Booleans.{asked_kid}
use Rattle.making.proofs.Slots.{slot_for_is}

-- What is known of a side's cut as the code reads it: its own, or past each position at the last edge.
abbrev pub CutRead : List ℤ → View → ℕ → ℕ → Type 0
CutRead cuts w j k = (j + 1 < w.count → k ≡ cut_seen cuts 0 w j) × (w.count ≤ j + 1 → k ≡ beyond) × (k ≤ beyond)

-- Some slot is the next one, whatever the child.
pub slot_exists : (len final id : ℕ) → (s : ℕ) × (0 < len → final ≡ id → s ≡ len - 1) × ((0 < len → final ≡ id → ⊥) → s ≡ len)
slot_exists len final id = go (lt_or_le 0 len) (ℕ_discrete final id)
  where
    go : (0 < len) ⊎ (len ≤ 0) → Dec (final ≡ id) → (s : ℕ) × (0 < len → final ≡ id → s ≡ len - 1) × ((0 < len → final ≡ id → ⊥) → s ≡ len)
    go (inl l) (yes e) = (len - 1, λ m f. refl, λ n. absurd (n l e))
    go (inl l) (no n) = (len, λ m f. absurd (n f), λ k. refl)
    go (inr g) d = (len, λ m f. omega arith, λ k. refl)

-- The edges that are left on both sides, while there is more to do.
abbrev pub edges_still_ahead : View → View → ℕ → ℕ → Bool → ℕ
edges_still_ahead a b i j more = cond more (suc ((a.count - i) + (b.count - j))) 0

module _ {v n : ℕ} (W : Walk v n) (h : Used) (st : Store) (memo : List ℕ) (a b : View) where
  abbrev t : Table
  t = table_of h st

  abbrev f : Table → ℕ × ℕ → Table × ℕ
  f = W.f

  abbrev whole : Table × Pieces ℕ
  whole = walk f t (overlay (seen st.children st.cuts v a 0) (seen st.children st.cuts v b 0))

  abbrev pub want : Table × ℕ
  want = both false f t v (seen st.children st.cuts v a 0) (seen st.children st.cuts v b 0)

  -- The next overlap is that of edges i and j; `len` edges are built.
  pub record At (u : Table) (out : built.Edges) (final : NodeId) (len i j : ℕ) : Type 0 where
    pub left_in : i < a.count
    pub right_in : j < b.count
    pub most : len ≤ most_edges
    pub last_is : 0 < len → final.0 ≡ child_in out (len - 1)
    pub left_kids : Each (Child t (suc v)) (seen st.children st.cuts v a i)
    pub right_kids : Each (Child t (suc v)) (seen st.children st.cuts v b j)
    pub going : Going f whole u (child_in out) (cut_in out) len (seen st.children st.cuts v a i) (seen st.children st.cuts v b j)

  -- All are built.
  pub record Built (u : Table) (out : built.Edges) (len : ℕ) : Type 0 where
    pub some : 1 ≤ len
    pub most : len ≤ most_edges
    pub table : u ≡ whole.0
    pub pieces : run (child_in out) (cut_in out) 0 (len - 1) ≡ merge whole.1

  -- What the loop keeps: while there is more, where it stands; else what is built, or that there is no room.
  pub record Loop (now : Used) (st' : Store) (index' memo' : List ℕ) (out : built.Edges) (final : NodeId) (len i j : ℕ) (ok more : Bool) : Type 0 where
    pub ready : Ready W.note now st' index' memo'
    pub stays : Stays h st now st'
    pub long : length memo' ≡ length memo
    pub size : length out.list ≡ most_edges
    pub at : more ≡ true → At (table_of now st') out final len i j
    pub built_all : more ≡ false → ok ≡ true → Built (table_of now st') out len
    pub full : more ≡ false → ok ≡ false → Fits (room st.nodes) (length st.children) want.0 → ⊥

  -- The edges' number is written in them, or not.
  pub loop_any_len : {now : Used} {st' : Store} {index' memo' : List ℕ} {out : built.Edges} {final : NodeId} {len i j : ℕ} {ok more : Bool} (n : ℕ) → Loop now st' index' memo' out final len i j ok more
      → Loop now st' index' memo' (record { list = out.list; len = n }) final len i j ok more
  loop_any_len n l = record {
    ready = l.ready;
    stays = l.stays;
    long = l.long;
    size = l.size;
    at = λ q. let x = l.at q in record { left_in = x.left_in; right_in = x.right_in; most = x.most; last_is = x.last_is; left_kids = x.left_kids; right_kids = x.right_kids; going = x.going };
    built_all = λ q o. let x = l.built_all q o in record { some = x.some; most = x.most; table = x.table; pieces = x.pieces };
    full = l.full;
  }

  module _ {index : List ℕ} (r : Ready W.note h st index memo) (s : Sides t h.edges st.children st.cuts v n a b) (range : v < first_boolean) where
    pub loop_starts : (out : built.Edges) → length out.list ≡ most_edges → (final : NodeId) → Loop h st index memo out final 0 0 0 true true
    loop_starts out size final = record {
      ready = r;
      stays = stays_refl;
      long = refl;
      size = size;
      at = λ q. record { left_in = s.left.some; right_in = s.right.some; most = omega arith; last_is = λ l. absurd (omega arith); left_kids = s.left_kids; right_kids = s.right_kids; going = going_none f t (child_in out) (cut_in out) _ _ };
      built_all = λ q. absurd (not_false_and_true q refl);
      full = λ q. absurd (not_false_and_true q refl);
    }

    module _ {now : Used} {st₁ : Store} {index₁ memo₁ : List ℕ} {out : built.Edges} {final : NodeId} {len i j : ℕ} {ok more : Bool}
        (l : Loop now st₁ index₁ memo₁ out final len i j ok more) where
      abbrev u : Table
      u = table_of now st₁

      module _ (on : more ≡ true) where
        abbrev here : At u out final len i j
        here = l.at on

        module _ {x y : ℕ} (rx : x ≡ child_seen st₁.children a i) (ry : y ≡ child_seen st₁.children b j) where
          ex : x ≡ child_seen st.children a i
          ex = rx ∙ child_seen_stays st.children st₁.children st.cuts st₁.cuts v h.edges a s.left l.stays.child i here.left_in

          ey : y ≡ child_seen st.children b j
          ey = ry ∙ child_seen_stays st.children st₁.children st.cuts st₁.cuts v h.edges b s.right l.stays.child j here.right_in

          first_kid : (w : View) (p : ℕ) → p < w.count → Each (Child t (suc v)) (seen st.children st.cuts v w p) → Child t (suc v) (child_seen st.children w p)
          first_kid w p k e = ⊎_elim (λ g. (subst (Each (Child t (suc v))) (seen_cut st.children st.cuts v w p g) e).0) (λ g. subst (Each (Child t (suc v))) (seen_last st.children st.cuts v w p (omega arith)) e) (lt_or_le (p + 1) w.count)

          kid_now : (c : ℕ) → Child t (suc v) c → Child u (suc v) c
          kid_now c k = continues_child (stays_continues r.lent l.stays) (suc v) c k

          pub both_asked : Asked u now.nodes n x × Asked u now.nodes n y
          both_asked = (
            asked_kid now st₁ s.enough (subst (Child u (suc v)) (sym ex) (kid_now _ (first_kid a i here.left_in here.left_kids))),
            asked_kid now st₁ s.enough (subst (Child u (suc v)) (sym ey) (kid_now _ (first_kid b j here.right_in here.right_kids))),
          )

          module _ {k q : ℕ} (rk : CutRead st₁.cuts a i k) (rq : CutRead st₁.cuts b j q) {m : Made} {st₂ : Store} {index₂ memo₂ : List ℕ}
              (d : Stepped W.note now (f u (x, y)) m st₁ memo₁ st₂ index₂ memo₂) {slot₀ : ℕ}
              (sf : (0 < len → final.0 ≡ m.id.0 → slot₀ ≡ len - 1) × ((0 < len → final.0 ≡ m.id.0 → ⊥) → slot₀ ≡ len)) where
            abbrev pair : ℕ × ℕ
            pair = (child_seen st.children a i, child_seen st.children b j)

            abbrev answer : Table × ℕ
            answer = f u pair

            c : Stepped W.note now answer m st₁ memo₁ st₂ index₂ memo₂
            c = stepped_equal_want d (ap₂ (λ (p q : ℕ). f u (p, q)) ex ey)

            abbrev u₂ : Table
            u₂ = table_of m.used st₂

            -- cuts
            top_is : top_of v < beyond
            top_is = rw (lt-ltb v first_boolean range) (omega arith)

            own : (w : View) → Inside h.edges w → Rising 0 (top_of v) (seen st.children st.cuts v w 0) → (p z : ℕ) → CutRead st₁.cuts w p z → p + 1 < w.count → (z ≡ cut_seen st.cuts v w p) × (z < beyond)
            own w ins rise p z rz g =
                let e : z ≡ cut_seen st.cuts v w p = rz.0 g ∙ (cut_seen_stays st.children st₁.children st.cuts st₁.cuts 0 h.edges w ins l.stays.cut p g ∙ sym (cut_seen_range st.cuts v w p range)) in
                (e, omega (arith, e, (rising_cut st.children st.cuts v w (top_of v) rise p g).1, top_is))

            real : (w : View) (p z : ℕ) → CutRead st₁.cuts w p z → z < beyond → p + 1 < w.count
            real w p z rz g = ⊎_elim (λ e. e) (λ e. absurd (omega (arith, rz.1 e))) (lt_or_le (p + 1) w.count)

            -- the slot
            slot_is : m.ok ≡ true → Slot (child_in out) len answer.1 slot₀
            slot_is good = subst (λ (d : ℕ). Slot (child_in out) len d slot₀) (c.outcome.id good) (slot_for_is (child_in out) len final.0 m.id.0 slot₀ here.last_is sf)

            module _ (slot z : ℕ) (room_for : slot < most_edges) where
              abbrev out₂ : built.Edges
              out₂ = record { list = set out.list slot (record { cut = z; child = m.id; spare = 0 }); len = out.len }

              put : m.ok ≡ true → slot ≡ slot₀ → Put (child_in out) (cut_in out) (child_in out₂) (cut_in out₂) len slot answer.1
              put good e = record {
                slot = subst (Slot (child_in out) len answer.1) (sym e) (slot_is good);
                keeps = λ p g. let x = get_or-set_other out.list slot p (record { cut = z; child = m.id; spare = 0 }) none (λ w. omega arith) in (ap (λ (i : Edge). i.child.0) x, ap (λ (i : Edge). i.cut) x);
                child = ap (λ (i : Edge). i.child.0) (get_or-set_same out.list slot (record { cut = z; child = m.id; spare = 0 }) none (omega (arith, l.size))) ∙ c.outcome.id good;
              }

              cut_put : cut_in out₂ slot ≡ z
              cut_put = ap (λ (i : Edge). i.cut) (get_or-set_same out.list slot (record { cut = z; child = m.id; spare = 0 }) none (omega (arith, l.size)))

              at_next : m.ok ≡ true → (i₂ j₂ : ℕ) → i₂ < a.count → j₂ < b.count → Each (Child t (suc v)) (seen st.children st.cuts v a i₂) → Each (Child t (suc v)) (seen st.children st.cuts v b j₂)
                  → Going f whole answer.0 (child_in out₂) (cut_in out₂) (slot + 1) (seen st.children st.cuts v a i₂) (seen st.children st.cuts v b j₂) → At u₂ out₂ m.id (slot + 1) i₂ j₂
              at_next good i₂ j₂ li lj ki kj g = record {
                left_in = li;
                right_in = lj;
                most = omega arith;
                last_is = λ p. let e : slot + 1 - 1 ≡ slot = omega arith in sym (ap (child_in out₂) e ∙ ap (λ (i : Edge). i.child.0) (get_or-set_same out.list slot (record { cut = z; child = m.id; spare = 0 }) none (omega (arith, l.size))));
                left_kids = ki;
                right_kids = kj;
                going = subst (λ (s : Table). Going f whole s (child_in out₂) (cut_in out₂) (slot + 1) (seen st.children st.cuts v a i₂) (seen st.children st.cuts v b j₂)) (sym (c.outcome.table good)) g;
              }

              loop_next : (i₂ j₂ : ℕ) (ok₂ more₂ : Bool) → (more₂ ≡ true → At u₂ out₂ m.id (slot + 1) i₂ j₂) → (more₂ ≡ false → ok₂ ≡ true → Built u₂ out₂ (slot + 1))
                  → (more₂ ≡ false → ok₂ ≡ false → Fits (room st.nodes) (length st.children) want.0 → ⊥) → Loop m.used st₂ index₂ memo₂ out₂ m.id (slot + 1) i₂ j₂ ok₂ more₂
              loop_next i₂ j₂ ok₂ more₂ p q r = record {
                ready = ready_after_step l.ready c;
                stays = stays_trans l.stays c.outcome.stays;
                long = c.long ∙ l.long;
                size = simp length-set l.size;
                at = p;
                built_all = q;
                full = r;
              }

            -- The sides, as cuts or last edges.
            module _ (w : View) (p : ℕ) (inn : p < w.count) where
              as_cut : p + 1 < w.count → seen st.children st.cuts v w p ≡ cut (child_seen st.children w p) (cut_seen st.cuts v w p) (seen st.children st.cuts v w (p + 1))
              as_cut g = seen_cut st.children st.cuts v w p g

              as_last : w.count ≤ p + 1 → seen st.children st.cuts v w p ≡ last (child_seen st.children w p)
              as_last g = seen_last st.children st.cuts v w p (omega arith)

              kids_on : p + 1 < w.count → Each (Child t (suc v)) (seen st.children st.cuts v w p) → Each (Child t (suc v)) (seen st.children st.cuts v w (p + 1))
              kids_on g e = (subst (Each (Child t (suc v))) (as_cut g) e).1

            abbrev A : ℕ → Pieces ℕ
            A p = seen st.children st.cuts v a p

            abbrev B : ℕ → Pieces ℕ
            B p = seen st.children st.cuts v b p

            abbrev G : Pieces ℕ → Pieces ℕ → Type 0
            G e g = Going f whole u (child_in out) (cut_in out) len e g

            moved : {e e' g g' : Pieces ℕ} → e ≡ e' → g ≡ g' → G e g → G e' g'
            moved {e} {e'} {g} {g'} p q x = subst (λ (z : Pieces ℕ). G z g') p (subst (λ (z : Pieces ℕ). G e z) q x)

            li : i < a.count
            li = here.left_in

            lj : j < b.count
            lj = here.right_in

            -- The left side's cut is nearer.
            step_left : (good : m.ok ≡ true) (fits : slot₀ < most_edges) → k < q → At u₂ (out₂ slot₀ k fits) m.id (slot₀ + 1) (i + 1) j
            step_left good fits near = ⊎_elim
                (λ g. at_next slot₀ k fits good (i + 1) j gi lj (kids_on a i li gi here.left_kids) here.right_kids
                (subst (N (A (i + 1))) (sym (as_cut b j lj g)) (going_less f whole u (child_in out) (cut_in out) _ _ len slot₀ _ _ _ _ _ _ (moved (as_cut a i li gi) (as_cut b j lj g) here.going) (put slot₀ k fits good refl) (omega (arith, ka, (own b s.right s.right_rises j q rq g).0)) (cut_put slot₀ k fits ∙ ka))))
                (λ g. at_next slot₀ k fits good (i + 1) j gi lj (kids_on a i li gi here.left_kids) here.right_kids
                (subst (N (A (i + 1))) (sym (as_last b j lj g)) (going_cut_last f whole u (child_in out) (cut_in out) _ _ len slot₀ _ _ _ _ (moved (as_cut a i li gi) (as_last b j lj g) here.going) (put slot₀ k fits good refl) (cut_put slot₀ k fits ∙ ka))))
                (lt_or_le (j + 1) b.count)
              where
                gi : i + 1 < a.count
                gi = real a i k rk (omega (arith, rq.2))

                ka : k ≡ cut_seen st.cuts v a i
                ka = (own a s.left s.left_rises i k rk gi).0

                N : Pieces ℕ → Pieces ℕ → Type 0
                N e g = Going f whole answer.0 (child_in (out₂ slot₀ k fits)) (cut_in (out₂ slot₀ k fits)) (slot₀ + 1) e g

            -- The right side's cut is nearer.
            step_right : (good : m.ok ≡ true) (fits : slot₀ < most_edges) → q < k → At u₂ (out₂ slot₀ q fits) m.id (slot₀ + 1) i (j + 1)
            step_right good fits near = ⊎_elim
                (λ g. at_next slot₀ q fits good i (j + 1) li gj here.left_kids (kids_on b j lj gj here.right_kids)
                (subst (λ (e : Pieces ℕ). N e (B (j + 1))) (sym (as_cut a i li g)) (going_more f whole u (child_in out) (cut_in out) _ _ len slot₀ _ _ _ _ _ _ (moved (as_cut a i li g) (as_cut b j lj gj) here.going) (put slot₀ q fits good refl) (omega (arith, qb, (own a s.left s.left_rises i k rk g).0)) (cut_put slot₀ q fits ∙ qb))))
                (λ g. at_next slot₀ q fits good i (j + 1) li gj here.left_kids (kids_on b j lj gj here.right_kids)
                (subst (λ (e : Pieces ℕ). N e (B (j + 1))) (sym (as_last a i li g)) (going_last_cut f whole u (child_in out) (cut_in out) _ _ len slot₀ _ _ _ _ (moved (as_last a i li g) (as_cut b j lj gj) here.going) (put slot₀ q fits good refl) (cut_put slot₀ q fits ∙ qb))))
                (lt_or_le (i + 1) a.count)
              where
                gj : j + 1 < b.count
                gj = real b j q rq (omega (arith, rk.2))

                qb : q ≡ cut_seen st.cuts v b j
                qb = (own b s.right s.right_rises j q rq gj).0

                N : Pieces ℕ → Pieces ℕ → Type 0
                N e g = Going f whole answer.0 (child_in (out₂ slot₀ q fits)) (cut_in (out₂ slot₀ q fits)) (slot₀ + 1) e g

            -- Both sides go on.
            step_both : (good : m.ok ≡ true) (fits : slot₀ < most_edges) → k ≡ q → k < beyond → At u₂ (out₂ slot₀ k fits) m.id (slot₀ + 1) (i + 1) (j + 1)
            step_both good fits e inner = at_next slot₀ k fits good (i + 1) (j + 1) gi gj (kids_on a i li gi here.left_kids) (kids_on b j lj gj here.right_kids)
                (going_same f whole u (child_in out) (cut_in out) _ _ len slot₀ _ _ _ _ _ _ (moved (as_cut a i li gi) (as_cut b j lj gj) here.going) (put slot₀ k fits good refl) (top_of v) level_cuts
                (subst (λ (x : ℕ). Rising x (top_of v) (B (j + 1))) (sym level_cuts) (rising_cut st.children st.cuts v b (top_of v) s.right_rises j gj).2) (cut_put slot₀ k fits ∙ ka))
              where
                gi : i + 1 < a.count
                gi = real a i k rk inner

                gj : j + 1 < b.count
                gj = real b j q rq (omega (arith, e))

                ka : k ≡ cut_seen st.cuts v a i
                ka = (own a s.left s.left_rises i k rk gi).0

                level_cuts : cut_seen st.cuts v a i ≡ cut_seen st.cuts v b j
                level_cuts = sym ka ∙ (e ∙ (own b s.right s.right_rises j q rq gj).0)

            -- Both sides are at their last edges.
            step_end : (good : m.ok ≡ true) (fits : slot₀ < most_edges) → k ≡ q → beyond ≤ k → Built u₂ (out₂ slot₀ k fits) (slot₀ + 1)
            step_end good fits e outer =
                let x = going_ends_whole f whole u (child_in out) (cut_in out) _ _ len slot₀ _ _ (moved (as_last a i li (end a s.left s.left_rises i k rk outer)) (as_last b j lj (end b s.right s.right_rises j q rq (omega (arith, e)))) here.going) (put slot₀ k fits good refl) in
                let w : slot₀ + 1 - 1 ≡ slot₀ = omega arith in
                record { some = omega arith; most = omega arith; table = c.outcome.table good ∙ x.0; pieces = ap (run (child_in (out₂ slot₀ k fits)) (cut_in (out₂ slot₀ k fits)) 0) w ∙ x.1 }
              where
                end : (w : View) → Inside h.edges w → Rising 0 (top_of v) (seen st.children st.cuts v w 0) → (p z : ℕ) → CutRead st₁.cuts w p z → beyond ≤ z → w.count ≤ p + 1
                end w ins rise p z rz g = ⊎_elim (λ y. absurd (omega (arith, (own w ins rise p z rz y).1))) (λ y. y) (lt_or_le (p + 1) w.count)

            -- There is no room for the children, or no slot.
            kids_over : Each (λ (p : ℕ × ℕ). Child t (suc v) p.0 × Child t (suc v) p.1) (overlay (A i) (B j))
            kids_over = each_overlay (Child t (suc v)) (Child t (suc v)) (A i) (B j) here.left_kids here.right_kids

            first_pair : f u (first (A i), first (B j)) ≡ answer
            first_pair = ap₂ (λ (p q : ℕ). f u (p, q)) (first_seen st.children st.cuts v a i li) (first_seen st.children st.cuts v b j lj)

            same_want : want.0 ≡ (create_over v whole).0
            unfolding both walk_in
            same_want = refl

            no_child : m.ok ≡ false → Fits (room st.nodes) (length st.children) want.0 → ⊥
            no_child bad y = not_fits_child_full f t (suc v) (λ p. Child t (suc v) p.0 × Child t (suc v) p.1) (W.m t) (W.made s.enough t (lent_sound r.lent)) whole u (lent_sound l.ready.lent) (stays_continues r.lent l.stays)
                (child_in out) (cut_in out) len (A i) (B j) kids_over here.going v (room st.nodes) (length st.children)
                (λ z. c.outcome.full bad (moved_fits (subst (λ (w : Table × ℕ). Fits (room st.nodes) (length st.children) w.0) first_pair z))) (subst (Fits (room st.nodes) (length st.children)) same_want y)
              where
                moved_fits : Fits (room st.nodes) (length st.children) answer.0 → Fits (room st₁.nodes) (length st₁.children) answer.0
                moved_fits z = subst (λ (x : ℕ). Fits x (length st₁.children) answer.0) (ap (λ (x : ℕ). x / 4) (sym l.stays.long)) (subst (λ (x : ℕ). Fits (room st.nodes) x answer.0) (sym l.stays.wide) z)

            no_slot : m.ok ≡ true → most_edges ≤ slot₀ → Fits (room st.nodes) (length st.children) want.0 → ⊥
            no_slot good over y = not_fits_too_wide whole.0 v whole.1 (room st.nodes) (length st.children) (omega (arith, going_below_count f whole u (child_in out) (cut_in out) len (A i) (B j) here.going other, len_is)) (subst (Fits (room st.nodes) (length st.children)) same_want y)
              where
                fresh : 0 < len → final.0 ≡ m.id.0 → ⊥
                fresh g e = omega (arith, sf.0 g e, here.most)

                len_is : slot₀ ≡ len
                len_is = sf.1 fresh

                other : 0 < len → child_in out (len - 1) ≡ (f u (first (A i), first (B j))).1 → ⊥
                other g e = fresh g (here.last_is g ∙ (e ∙ (ap (λ (w : Table × ℕ). w.1) first_pair ∙ sym (c.outcome.id good))))

            -- The children have no room, and the merge is left.
            pub stepped_no_child : m.ok ≡ false → (id : NodeId) → Stepped W.note h want (record { ok = false; id = id; used = m.used }) st memo st₂ index₂ memo₂
            stepped_no_child bad id = record {
              outcome = record { lent = (ready_after_step l.ready c).lent; stays = stays_trans l.stays c.outcome.stays; table = λ e. absurd (not_false_and_true refl e); id = λ e. absurd (not_false_and_true refl e); full = λ e. no_child bad };
              long = c.long ∙ l.long;
              recalled = c.recalled;
            }

            pub slot_inside : {ok₂ more₂ : Bool} {slot z dl dr : ℕ} → Advances m.ok slot₀ k q ok₂ more₂ slot z dl dr → slot < most_edges
            slot_inside (stopped x) = omega arith
            slot_inside (left good fits near) = fits
            slot_inside (right good fits near) = fits
            slot_inside (level good fits e) = fits

            pub sides_small : {ok₂ more₂ : Bool} {slot z dl dr : ℕ} → Advances m.ok slot₀ k q ok₂ more₂ slot z dl dr → (i + dl ≤ most_edges) × (j + dr ≤ most_edges)
            sides_small (stopped x) = (omega (arith, li, s.left.most), omega (arith, lj, s.right.most))
            sides_small (left good fits near) = (omega (arith, li, s.left.most), omega (arith, lj, s.right.most))
            sides_small (right good fits near) = (omega (arith, li, s.left.most), omega (arith, lj, s.right.most))
            sides_small (level good fits e) = (omega (arith, li, s.left.most), omega (arith, lj, s.right.most))

            -- One turn of the loop.
            pub loop_step : {ok₂ more₂ : Bool} {slot z dl dr : ℕ} (adv : Advances m.ok slot₀ k q ok₂ more₂ slot z dl dr) → Loop m.used st₂ index₂ memo₂ (out₂ slot z (slot_inside adv)) m.id (slot + 1) (i + dl) (j + dr) ok₂ more₂
            unfolding slot_inside
            loop_step (stopped x) = loop_next 0 0 (omega arith) (i + 0) (j + 0) false false (λ e. absurd (not_false_and_true refl e)) (λ e o. absurd (not_false_and_true refl o)) (λ e o. go m.ok refl)
              where
                go : (good : Bool) → m.ok ≡ good → Fits (room st.nodes) (length st.children) want.0 → ⊥
                go true e = no_slot e (x e)
                go false e = no_child e
            loop_step (left good fits near) = loop_next slot₀ k fits (i + 1) (j + 0) true true (λ e. let w : j ≡ j + 0 = omega arith in subst (At u₂ (out₂ slot₀ k fits) m.id (slot₀ + 1) (i + 1)) w (step_left good fits near)) (λ e. absurd (not_false_and_true e refl)) (λ e. absurd (not_false_and_true e refl))
            loop_step (right good fits near) = loop_next slot₀ q fits (i + 0) (j + 1) true true (λ e. let w : i ≡ i + 0 = omega arith in subst (λ (p : ℕ). At u₂ (out₂ slot₀ q fits) m.id (slot₀ + 1) p (j + 1)) w (step_right good fits near)) (λ e. absurd (not_false_and_true e refl)) (λ e. absurd (not_false_and_true e refl))
            loop_step (level good fits e) = loop_next slot₀ k fits (i + 1) (j + 1) true (ltb k beyond) (λ o. step_both good fits e (ltb-true k beyond o)) (λ o w. step_end good fits e (ltb-false k beyond o)) (λ o w. absurd (not_false_and_true w refl))

            -- It falls.
            pub loop_falls : {ok₂ more₂ : Bool} {slot z dl dr : ℕ} → Advances m.ok slot₀ k q ok₂ more₂ slot z dl dr → edges_still_ahead a b (i + dl) (j + dr) more₂ < edges_still_ahead a b i j more
            loop_falls (stopped x) = rw on (omega arith)
            loop_falls (left good fits near) = rw on (omega (arith, here.left_in))
            loop_falls (right good fits near) = rw on (omega (arith, here.right_in))
            loop_falls (level good fits e) = rw on (go (ltb k beyond))
              where
                go : (b₂ : Bool) → edges_still_ahead a b (i + 1) (j + 1) b₂ < edges_still_ahead a b i j true
                go true = omega (arith, here.left_in)
                go false = omega arith

      -- What is done so far.
      pub stepped_so_far : Stepped W.note h (u, 0) (record { ok = true; id = record { 0 = 0 }; used = now }) st memo st₁ index₁ memo₁
      stepped_so_far = record {
        outcome = record { lent = l.ready.lent; stays = l.stays; table = λ e. refl; id = λ e. refl; full = λ e. absurd (not_false_and_true e refl) };
        long = l.long;
        recalled = l.ready.recalled;
      }

      -- The loop is left.
      module _ (off : more ≡ false) where
        pub stepped_merge_fails : ok ≡ false → (id : NodeId) → Stepped W.note h want (record { ok = false; id = id; used = now }) st memo st₁ index₁ memo₁
        stepped_merge_fails bad id = record {
          outcome = record { lent = l.ready.lent; stays = l.stays; table = λ e. absurd (not_false_and_true refl e); id = λ e. absurd (not_false_and_true refl e); full = λ e. l.full off bad };
          long = l.long;
          recalled = l.ready.recalled;
        }

        module _ (good : ok ≡ true) where
          abbrev done : Built u out len
          done = l.built_all off good

          abbrev closed : built.Edges
          closed = record { list = out.list; len = len }

          walk_made : Walked t (suc v) (W.m t) (overlay (seen st.children st.cuts v a 0) (seen st.children st.cuts v b 0)) whole
          walk_made = walk_makes_each f t (suc v) (λ p. Child t (suc v) p.0 × Child t (suc v) p.1) (W.m t) (W.made s.enough t (lent_sound r.lent)) t (lent_sound r.lent) same _
              (each_overlay (Child t (suc v)) (Child t (suc v)) (seen st.children st.cuts v a 0) (seen st.children st.cuts v b 0) s.left_kids s.right_kids)

          pub closed_buildable : Buildable u v closed
          closed_buildable = record {
            building = record { size = l.size; some = done.some; most = done.most };
            known = s.known;
            reduced = subst (Reduced 0 (top_of v)) (sym done.pieces) (reduced_merge 0 (top_of v) whole.1 (walk_made.shape 0 (top_of v) (rising_overlay 0 (top_of v) _ _ s.left_rises s.right_rises)));
            kids = subst (λ (x : Table). Each (Child x (suc v)) (pieces_of closed)) (sym done.table) (subst (Each (Child whole.0 (suc v))) (sym done.pieces) (each_merge (Child whole.0 (suc v)) whole.1 walk_made.kids));
          }

          wanted : settle u v (pieces_of closed) ≡ want
          unfolding both walk_in
          wanted = ap₂ (λ (x : Table) (p : Pieces ℕ). settle x v p) done.table done.pieces

          pub stepped_when_closed : {o : Made} {st₂ : Store} {index₂ : List ℕ} → Outcome now (settle u v (pieces_of closed)) o st₁ st₂ index₂ → Stepped W.note h want o st memo st₂ index₂ memo₁
          stepped_when_closed o = stepped_equal_want (stepped_then_outcome r stepped_so_far W.grows o) wanted
