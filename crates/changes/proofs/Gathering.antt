-- One node's children, each in its turn: what the loop keeps, each of its turns, and the node over the answers. Assumes nothing.
use mathlib.Core.Path.{◌≡◌, refl, sym, ◌∙◌, ap, ap₂, subst}
use mathlib.Core.Bool.{Bool, true, false, not, cond}
use mathlib.Core.List.{List}
use mathlib.Core.Logic.{⊎_elim}
use Prim.Native.Nat.{ℕ, suc, ◌+◌, ◌-◌, ◌*◌, ◌/◌, ◌≤◌, ◌<◌}
use native.Mathlib.Omega.{arith}
use native.Mathlib.Decide.{ℕ_discrete}
use lib.ListN.{length, get_or, set, length-set}
use lib.Seq.{get_or-set_same, get_or-set_other}
use borrow.Author.Tests.{lt-ltb, le-ltb}
use Rattle.ids.specs.Id.{TRUE}
use Rattle.diagram.specs.Pieces.{Pieces}
use Rattle.diagram.specs.Shape.{Each, Rising, run}
use Rattle.diagram.specs.Table.{variables, first_boolean, is_range, top_of, Table, Assignment, Continues, most_edges}
use Rattle.diagram.specs.Room.{Fits}
use Rattle.diagram.specs.Sound.{Known, Child, Sound}
use Rattle.diagram.proofs.Continuing.{continues_child}
use Rattle.diagram.proofs.Numbered.{run_shift}
use Rattle.algebra.specs.Making.{create_node}
use Rattle.algebra.specs.Conjunction.{walk_in, create_over}
use Rattle.algebra.proofs.Made.{Made}
use Rattle.algebra.proofs.Making.{created}
use Rattle.table.specs.Layout.{most_nodes, room, MemoLengths, Store}
use Rattle.table.proofs.Laws.{lt_or_le, not_false_and_true}
use Rattle.merging.proofs.Turning.{turn, table_at, answer_at, table_next, answer_at_turn, walk_run_by_turns, turn_inside, turn_inj, turn_turn, answer_child, not_fits_turn_full, each_of_run, rising_same_cuts}
use Rattle.views.specs.declared.View.{View}
use Rattle.views.specs.Seeing.{Asked, Inside, child_seen, cut_seen, seen}
use Rattle.views.proofs.Sights.{known_used, seen_each, child_seen_stays, cut_seen_stays}
use Rattle.making.specs.declared.edges.Edge.{Edge}
use Rattle.making.specs.declared.edges.Edges as built
use Rattle.table.specs.declared.lent.Used.{Used}
use Rattle.making.specs.Made as code
use Rattle.making.specs.Building.{none, child_in, cut_in, pieces_of}
use Rattle.making.specs.Outcome.{Lent, Stays, Outcome, Mergeable, table_of}
use Rattle.making.proofs.Kept.{stays_refl, stays_trans, stays_continues}
use Rattle.memo.specs.Recalling.{Framed, Noted}
use Rattle.walks.specs.Walking.{Note, Ready, Stepped}
use Rattle.walks.proofs.Composing.{Grows, lent_sound, known_small, ready_after_step, stepped_then_outcome, stepped_equal_want, stepped_with_note}
use Rattle.walks.proofs.Booleans.{asked_kid}

-- The node of variable v over one side, an operation being done on each child, in one of the two orders.
unfoldable pub over : Bool → (Table → ℕ → Table × ℕ) → Table → ℕ → Pieces ℕ → Table × ℕ
over back f t v e = create_over v (walk_in back f t e)

-- What the memo asks of an answer that was made here and is to be noted.
pub made_notes : {h : Used} {st : Store} {index memo : List ℕ} → Lent h st index → MemoLengths (length memo) (room st.nodes) → Framed memo → {x : ℕ} → x < 262144 → {u : ℕ} {es : built.Edges} → Mergeable (table_of h st) u es
    → {m : code.Made} {st' : Store} {index' : List ℕ} → Outcome h (create_node (table_of h st) u (pieces_of es)) m st st' index' → m.ok ≡ true
    → (8 ≤ length memo) × (length memo ≤ most_nodes * 8) × Framed memo × (x < 262144) × (TRUE < 262144) × (m.id.0 < 262144) × (u < variables)
made_notes {h} {st} l q f k {u} {es} e {m} {st'} o ok =
    let c : Known (table_of m.used st') m.id.0 = rw (o.table ok, o.id ok) (created (table_of h st) (lent_sound l) u e.known (pieces_of es) e.rises e.kids).made.child.0 in
    (omega (arith, q.some_sets), omega (arith, q.sets, q.most_sets, l.allowed.nodes_at_most), f, k, omega arith, known_small o.lent (known_used st' m.used.nodes m.id.0 c), e.known)

module _ (f : Table → ℕ → Table × ℕ) (h : Used) (st : Store) (memo : List ℕ) (a : View) (u : ℕ) where
  abbrev t : Table
  t = table_of h st

  abbrev back : Bool
  back = not (is_range u)

  abbrev n : ℕ
  n = a.count - 1

  abbrev c : ℕ → ℕ
  c = child_seen st.children a

  abbrev pub want : Table × ℕ
  want = over back f t u (seen st.children st.cuts u a 0)

  -- After so many turns the table is the one of those turns, and each answer stands in its child's place.
  pub record Gather (P : Note) (now : Used) (st' : Store) (index' memo' : List ℕ) (out : built.Edges) (done : ℕ) : Type 0 where
    pub ready : Ready P now st' index' memo'
    pub stays : Stays h st now st'
    pub long : length memo' ≡ length memo
    pub size : length out.list ≡ most_edges
    pub most : done ≤ a.count
    pub table : table_of now st' ≡ table_at f t back n c done
    pub child : (j : ℕ) → j < done → child_in out (turn back n j) ≡ answer_at f t back n c j
    pub cut : (j : ℕ) → j < done → turn back n j < n → cut_in out (turn back n j) ≡ cut_seen st.cuts u a (turn back n j)

  -- The side: a node's edges at its variable.
  pub record Side : Type 0 where
    pub known : u < variables
    pub inside : Inside h.edges a
    pub rises : Rising 0 (top_of u) (seen st.children st.cuts u a 0)
    pub kids : Each (Child t (suc u)) (seen st.children st.cuts u a 0)

  module _ {P : Note} (grows : Grows P) {index : List ℕ} (r : Ready P h st index memo) (s : Side) (m : ℕ → Assignment → Bool)
      (made : (w : Table) → Sound w → Continues t w → (x : ℕ) → Child t (suc u) x → Made w (suc u) (m x) (f w x)) where
    kid : (i : ℕ) → i ≤ n → Child t (suc u) (c i)
    kid i l = seen_each st.children st.cuts u a (Child t (suc u)) s.kids i (omega (arith, s.inside.some))

    seen_rises : Rising 0 (top_of u) (run c (cut_seen st.cuts u a) 0 n)
    unfolding seen
    seen_rises = let z : a.count - 1 - 0 ≡ n = omega arith in subst (λ (i : ℕ). Rising 0 (top_of u) (run c (cut_seen st.cuts u a) 0 i)) z s.rises

    -- All answers, each in its child's place, are what the walk gives.
    abbrev answers : ℕ → ℕ
    answers i = answer_at f t back n c (turn back n i)

    walk_is : walk_in back f t (seen st.children st.cuts u a 0) ≡ (table_at f t back n c (suc n), run answers (cut_seen st.cuts u a) 0 n)
    unfolding seen
    walk_is =
        let z : a.count - 1 - 0 ≡ n = omega arith in
        ap (λ (i : ℕ). walk_in back f t (run c (cut_seen st.cuts u a) 0 i)) z ∙ walk_run_by_turns f t n c answers (cut_seen st.cuts u a) back (λ j l. ap (answer_at f t back n c) (turn_turn back n j l))

    want_is : want ≡ create_over u (table_at f t back n c (suc n), run answers (cut_seen st.cuts u a) 0 n)
    unfolding over
    want_is = ap (create_over u) walk_is

    pub gather_starts : (out : built.Edges) → length out.list ≡ most_edges → Gather P h st index memo out 0
    unfolding table_at
    gather_starts out size = record {
      ready = r;
      stays = stays_refl;
      long = refl;
      size = size;
      most = omega arith;
      table = refl;
      child = λ j l. absurd (omega arith);
      cut = λ j l. absurd (omega arith);
    }

    module _ {now : Used} {st₁ : Store} {index₁ memo₁ : List ℕ} {out : built.Edges} {done : ℕ} (l : Gather P now st₁ index₁ memo₁ out done) where
      abbrev w : Table
      w = table_of now st₁

      module _ (on : done < a.count) {i : ℕ} (ei : i ≡ cond (is_range u) (a.count - (a.count - done)) (a.count - done - 1)) where
        turn_is : i ≡ turn back n done
        unfolding turn
        turn_is = ⊎_elim
            (λ e. rw (lt-ltb u first_boolean e) (omega (arith, on, rw (lt-ltb u first_boolean e) at ei)))
            (λ e. rw (le-ltb u first_boolean e) (omega (arith, on, rw (le-ltb u first_boolean e) at ei)))
            (lt_or_le u first_boolean)

        here : done ≤ n
        here = omega (arith, on)

        -- The edge is one of the view's.
        pub edge_inside : i < a.count
        edge_inside = omega (arith, turn_is, turn_inside back n done here, s.inside.some)

        module _ {x : ℕ} (rx : x ≡ child_seen st₁.children a i) where
          ex : x ≡ c (turn back n done)
          ex = rx ∙ (child_seen_stays st.children st₁.children st.cuts st₁.cuts u h.edges a s.inside l.stays.child i edge_inside ∙ ap c turn_is)

          grown : Child w (suc u) x
          grown = subst (Child w (suc u)) (sym ex) (continues_child (stays_continues r.lent l.stays) (suc u) _ (kid (turn back n done) (turn_inside back n done here)))

          -- Its child may be asked about.
          pub kid_asked : {q : ℕ} → variables < suc u + q → Asked w now.nodes q x
          kid_asked e = asked_kid now st₁ e grown

          module _ {d : code.Made} {st₂ : Store} {index₂ memo₂ : List ℕ} (e : Stepped P now (f w x) d st₁ memo₁ st₂ index₂ memo₂) where
            answer : f w x ≡ f (table_at f t back n c done) (c (turn back n done))
            answer = ap₂ f l.table ex

            moved : {b : Table} → Fits (room st.nodes) (length st.children) b → Fits (room st₁.nodes) (length st₁.children) b
            moved {b} z = subst (λ (q : ℕ). Fits q (length st₁.children) b) (ap (λ (q : ℕ). q / 4) (sym l.stays.long)) (subst (λ (q : ℕ). Fits (room st.nodes) q b) (sym l.stays.wide) z)

            -- Where it found no room, there is none for the node either;
            pub gather_stuck : d.ok ≡ false → Stepped P h want d st memo st₂ index₂ memo₂
            gather_stuck bad = record {
              outcome = record {
                lent = e.outcome.lent;
                stays = stays_trans l.stays e.outcome.stays;
                table = λ q. absurd (not_false_and_true bad q);
                id = λ q. absurd (not_false_and_true bad q);
                full = λ q y. not_fits_turn_full f t back n c (lent_sound r.lent) (suc u) m made kid done here u (run answers (cut_seen st.cuts u a) 0 n) (room st.nodes) (length st.children)
                    (λ fit. e.outcome.full bad (moved (subst (λ (o : Table × ℕ). Fits (room st.nodes) (length st.children) o.0) (sym answer) fit))) (subst (λ (o : Table × ℕ). Fits (room st.nodes) (length st.children) o.0) want_is y);
              };
              long = e.long ∙ l.long;
              recalled = e.recalled;
            }

            -- else its answer gets its edge.
            module _ (good : d.ok ≡ true) {k : ℕ} (rk : i + 1 < a.count → k ≡ cut_seen st₁.cuts u a i) {s₂ : Edge} (new : s₂ ≡ record { cut = k; child = d.id; spare = 0 }) where
              abbrev out₂ : built.Edges
              out₂ = record { list = set out.list i s₂; len = out.len }

              put : get_or out₂.list i none ≡ record { cut = k; child = d.id; spare = 0 }
              put = get_or-set_same out.list i s₂ none (omega (arith, l.size, edge_inside, s.inside.most)) ∙ new

              apart : (p : ℕ) → p < done → turn back n p ≡ i → ⊥
              apart p q z = omega (arith, turn_inj back n p done (omega (arith, here)) here (z ∙ turn_is))

              other : (p : ℕ) → p < done → get_or out₂.list (turn back n p) none ≡ get_or out.list (turn back n p) none
              other p q = get_or-set_other out.list i (turn back n p) s₂ none (apart p q)

              child_now : (p : ℕ) → p < done + 1 → Dec (p ≡ done) → child_in out₂ (turn back n p) ≡ answer_at f t back n c p
              child_now p q (yes z) =
                  let o : child_in out₂ i ≡ d.id.0 = ap (λ (y : Edge). y.child.0) put in
                  rw z (ap (child_in out₂) (sym turn_is) ∙ (o ∙ (e.outcome.id good ∙ (ap (λ (y : Table × ℕ). y.1) answer ∙ sym (answer_at_turn f t back n c done)))))
              child_now p q (no z) = ap (λ (y : Edge). y.child.0) (other p (omega (arith, z))) ∙ l.child p (omega (arith, z))

              cut_now : (p : ℕ) → p < done + 1 → turn back n p < n → Dec (p ≡ done) → cut_in out₂ (turn back n p) ≡ cut_seen st.cuts u a (turn back n p)
              cut_now p q b (yes z) =
                  let o : cut_in out₂ i ≡ k = ap (λ (y : Edge). y.cut) put in
                  let g : i + 1 < a.count = omega (arith, turn_is, rw z at b, s.inside.some) in
                  rw z (ap (cut_in out₂) (sym turn_is) ∙ (o ∙ (rk g ∙ (cut_seen_stays st.children st₁.children st.cuts st₁.cuts u h.edges a s.inside l.stays.cut i g ∙ ap (cut_seen st.cuts u a) turn_is))))
              cut_now p q b (no z) = ap (λ (y : Edge). y.cut) (other p (omega (arith, z))) ∙ l.cut p (omega (arith, z)) b

              pub gather_step : Gather P d.used st₂ index₂ memo₂ out₂ (done + 1)
              gather_step = record {
                ready = ready_after_step l.ready e;
                stays = stays_trans l.stays e.outcome.stays;
                long = e.long ∙ l.long;
                size = simp length-set l.size;
                most = omega (arith, on);
                table = let z : suc done ≡ done + 1 = omega arith in e.outcome.table good ∙ (ap (λ (y : Table × ℕ). y.0) answer ∙ (sym (table_next f t back n c done) ∙ ap (table_at f t back n c) z));
                child = λ p q. child_now p q (ℕ_discrete p done);
                cut = λ p q b. cut_now p q b (ℕ_discrete p done);
              }

      -- What is done so far.
      pub so_far : Stepped P h (w, 0) (record { ok = true; id = record { 0 = 0 }; used = now }) st memo st₁ index₁ memo₁
      so_far = record {
        outcome = record { lent = l.ready.lent; stays = l.stays; table = λ q. refl; id = λ q. refl; full = λ q. absurd (not_false_and_true q refl) };
        long = l.long;
        recalled = l.ready.recalled;
      }

      -- No turn is left.
      module _ (off : a.count ≤ done) where
        abbrev closed : built.Edges
        closed = record { list = out.list; len = a.count }

        all_turns : done ≡ suc n
        all_turns = omega (arith, off, l.most, s.inside.some)

        child_at_lem : (i : ℕ) → i ≤ n → child_in out i ≡ answers i
        child_at_lem i b = subst (λ (p : ℕ). child_in out p ≡ answers i) (turn_turn back n i b) (l.child (turn back n i) (omega (arith, all_turns, turn_inside back n i b)))

        cut_at : (i : ℕ) → i < n → cut_in out i ≡ cut_seen st.cuts u a i
        cut_at i b =
            let z = turn_turn back n i (omega arith) in
            subst (λ (p : ℕ). cut_in out p ≡ cut_seen st.cuts u a p) z (l.cut (turn back n i) (omega (arith, all_turns, turn_inside back n i (omega arith))) (omega (arith, z)))

        pieces_are : pieces_of closed ≡ run answers (cut_seen st.cuts u a) 0 n
        pieces_are = run_shift (child_in out) answers (cut_in out) (cut_seen st.cuts u a) 0 0 n
            (λ i b. let y : 0 + i ≡ i = omega arith in rw y (child_at_lem i b))
            (λ i b. let y : 0 + i ≡ i = omega arith in rw y (cut_at i b))

        table_is : w ≡ table_at f t back n c (suc n)
        table_is = l.table ∙ ap (table_at f t back n c) all_turns

        -- A node can be made of the answers,
        pub gathered_mergeable : Mergeable w u closed
        gathered_mergeable = record {
          building = record { size = l.size; some = s.inside.some; most = s.inside.most };
          known = s.known;
          rises = subst (Rising 0 (top_of u)) (sym pieces_are) (rising_same_cuts c answers (cut_seen st.cuts u a) 0 (top_of u) 0 n seen_rises);
          kids = subst (Each (Child w (suc u))) (sym pieces_are) (subst (λ (b : Table). Each (Child b (suc u)) (run answers (cut_seen st.cuts u a) 0 n)) (sym table_is)
              (each_of_run (Child (table_at f t back n c (suc n)) (suc u)) answers (cut_seen st.cuts u a) 0 n (λ i p q. answer_child f t back n c (lent_sound r.lent) (suc u) m made kid (turn back n i) (turn_inside back n i (omega arith)))));
        }

        made_is : create_node w u (pieces_of closed) ≡ want
        made_is = ap₂ (λ (b : Table) (p : Pieces ℕ). create_node b u p) table_is pieces_are ∙ sym want_is

        -- which is the one that is wanted,
        module _ {o : code.Made} {st₂ : Store} {index₂ : List ℕ} (v : Outcome now (create_node w u (pieces_of closed)) o st₁ st₂ index₂) where
          pub stepped_made : Stepped P h want o st memo st₂ index₂ memo₁
          stepped_made = stepped_equal_want (stepped_then_outcome r so_far grows v) made_is

          -- and is noted.
          pub stepped_noted : {x : ℕ} → ((t' : Table) (z : ℕ) → t' ≡ want.0 → z ≡ want.1 → P t' x TRUE z) → o.ok ≡ true → {memo₂ : List ℕ} → Noted memo₁ x TRUE o.id.0 memo₂ → Stepped P h want o st memo st₂ index₂ memo₂
          stepped_noted note good z = stepped_with_note stepped_made (note _ _ (stepped_made.outcome.table good) (stepped_made.outcome.id good)) z
