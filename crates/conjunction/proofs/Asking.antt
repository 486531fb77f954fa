-- What the pair walk asks of the table, and that the merge of both sides is what it answers. Assumes nothing.
use mathlib.Core.Path.{◌≡◌, refl, sym, ◌∙◌, ap, ap₂, subst}
use mathlib.Core.Bool.{Bool, true, false, not, ◌&&◌}
use mathlib.Core.List.{List}
use mathlib.Core.Logic.{◌⊎◌, inl, inr, ⊎_elim}
use mathlib.Core.Option.{none, some}
use Prim.Native.Nat.{ℕ, suc, ◌+◌, ◌-◌, ◌*◌, ◌≤◌, ◌<◌, min}
use native.Mathlib.Omega.{arith}
use native.Mathlib.Decide.{ℕ_discrete}
use lib.Dec.{eqb}
use lib.ListN.{length}
use borrow.Author.Tests.{lt-ltb, eq-eqb, ne_eqb}
use Rattle.ids.specs.Id.{ref, KnownTo}
use Rattle.diagram.specs.Shape.{count}
use Rattle.diagram.specs.Table.{variables, first_boolean, is_range, Table, at, value}
use Rattle.diagram.specs.Cofactor.{edges_of}
use Rattle.diagram.specs.Sound.{Known, Child}
use Rattle.diagram.proofs.Continuing.{continues_length, continues_value}
use Rattle.diagram.proofs.Facts.{facts_at, is_node}
use Rattle.diagram.proofs.Cofactors.{edge_other, count_own}
use Rattle.algebra.specs.Conjunction.{opening, conj_node, conj}
use Rattle.algebra.proofs.Conjoining.{neither_is_terminal}
use Rattle.table.specs.Layout.{most_nodes, var_at, start, Store}
use Rattle.table.proofs.Laws.{lt_or_le}
use Rattle.merging.proofs.Conjoined as joined
use Rattle.memo.specs.Recalling.{Framed, Ordered, as_given, turned}
use Rattle.memo.proofs.Recalled.{in_either_order}
use Rattle.table.specs.declared.lent.Used.{Used}
use Rattle.making.specs.Made.{Made}
use Rattle.making.specs.Outcome.{table_of}
use Rattle.views.specs.declared.View.{View}
use Rattle.views.specs.Seeing.{Asked, Inside, Sees, Views, seen}
use Rattle.views.proofs.Sights.{known_held, known_used, views_rising, views_kids, bool_count_le_two, seen_count, first_variable_is, sees_views, call_left}
use Rattle.walks.specs.Walking.{Ready, Stepped, Sides, both}
use Rattle.walks.proofs.Composing.{Grows, lent_sound, ready_remembers, ready_readable, ready_after_step}
use Rattle.walks.proofs.Walk.{Walk}
use Rattle.conjunction.specs.Joining.{Entry, pairs}

-- An entry stays true of a table that continues this one.
pub entry_grown : Grows Entry
entry_grown t t' z z' g x y c e = record {
  left_known = omega (arith, continues_length g, e.left_known);
  right_known = omega (arith, continues_length g, e.right_known);
  known = omega (arith, continues_length g, e.known);
  means = λ α. rw (continues_value g α x e.left_known, continues_value g α y e.right_known, continues_value g α c e.known) (e.means α);
}

-- Conjunction commutes: an entry of two ids is one of them in either order.
both_turned : (a b : Bool) → (a && b) ≡ (b && a)
both_turned true true = refl
both_turned true false = refl
both_turned false true = refl
both_turned false false = refl

entry_turned : {t : Table} {x y z : ℕ} → Entry t x y z → Entry t y x z
entry_turned {t} {x} {y} e = record { left_known = e.right_known; right_known = e.left_known; known = e.known; means = λ α. e.means α ∙ both_turned (value t α x) (value t α y) }

pub entry_ordered : {t : Table} {x y a b z : ℕ} → Ordered x y a b → Entry t x y z → Entry t a b z
entry_ordered as_given e = e
entry_ordered turned e = entry_turned e

pub entry_as_given : {t : Table} {x y a b z : ℕ} → Ordered x y a b → Entry t a b z → Entry t x y z
entry_as_given as_given e = e
entry_as_given turned e = entry_turned e

-- The walk of conjunction.
abbrev pub conj_walk : (v n : ℕ) → Walk v n
conj_walk v n = record { note = Entry; grows = entry_grown; f = pairs n; m = λ t p α. value t α p.0 && value t α p.1; made = λ e t z. joined.conj_made n t (suc v) e }

module _ {h : Used} {st : Store} {index memo : List ℕ} (r : Ready Entry h st index memo) where
  abbrev t : Table
  t = table_of h st

  module _ {n x y : ℕ} (ax : Asked t h.nodes n x) (ay : Asked t h.nodes n y) where
    abbrev u : ℕ
    u = (at t (ref x)).var

    abbrev w : ℕ
    w = (at t (ref y)).var

    left_known : Known t x
    left_known = known_held st h.nodes x ax.known

    right_known : Known t y
    right_known = known_held st h.nodes y ay.known

    one_less : n ≡ suc (n - 1)
    one_less = omega (arith, call_left (ready_readable r) x ax)

    enough : variables < min u w + n
    enough = omega (arith, ax.ahead, ay.ahead)

    left_child : Child t (min u w) x
    left_child = (left_known, omega arith)

    right_child : Child t (min u w) y
    right_child = (right_known, omega arith)

    -- What the opening tests settle, and what the memo recalls.
    pub opened_is : {z : ℕ} → opening x y ≡ some z → conj n t x y ≡ (t, z)
    opened_is {z} e = ap (λ (m : ℕ). conj m t x y) one_less ∙ joined.conj_opened (n - 1) t x y z e

    pub recalled_is : {z : ℕ} → Entry t x y z → conj n t x y ≡ (t, z)
    recalled_is {z} e = joined.conj_adds_nothing n t (lent_sound r.lent) (min u w) x y left_child right_child enough z e.known e.means

    -- What is remembered is true.
    pub entry_of : {out : Table × ℕ} {t' : Table} {z : ℕ} → out ≡ conj n t x y → t' ≡ out.0 → z ≡ out.1 → Entry t' x y z
    entry_of {out} {t'} {z} e p q =
        let m = joined.conj_known_says_both n t (lent_sound r.lent) (min u w) x y left_child right_child enough in
        subst (λ (c : ℕ). Entry t' x y c) (sym (q ∙ ap (λ (o : Table × ℕ). o.1) e)) (subst (λ (s : Table). Entry s x y (conj n t x y).1) (sym (p ∙ ap (λ (o : Table × ℕ). o.0) e)) (record { left_known = m.0; right_known = m.1; known = m.2; means = m.3 }))

    module _ (none : opening x y ≡ none) where
      pub left_node : 2 ≤ x
      left_node = (neither_is_terminal x y none).0

      pub right_node : 2 ≤ y
      right_node = (neither_is_terminal x y none).1

      module _ {v : ℕ} {a b : View} (first : v ≡ min (var_at st.nodes (ref x - 1)) (var_at st.nodes (ref y - 1))) (sa : Sees st.nodes v x a) (sb : Sees st.nodes v y b) where
        ev : v ≡ min u w
        ev = (first_variable_is (ready_readable r) x y left_node ax.known right_node ay.known first).0

        hv : v < variables
        hv = (first_variable_is (ready_readable r) x y left_node ax.known right_node ay.known first).1

        va : Views st h.nodes v x a
        va = sees_views (ready_readable r) x ax.known hv sa

        vb : Views st h.nodes v y b
        vb = sees_views (ready_readable r) y ay.known hv sb

        lx : Child t v x
        lx = (left_known, omega (arith, ev))

        ly : Child t v y
        ly = (right_known, omega (arith, ev))

        -- A side that tests the variable has two edges or more, and one that does not has one.
        many : (id : ℕ) (c : View) → Known t id → Views st h.nodes v id c → (at t (ref id)).var ≡ v → 2 ≤ c.count
        many id c k vc e = omega (arith, (facts_at t (lent_sound r.lent) (ref id) (is_node t (ref id) (omega (arith, e, hv))) k).many, count_own t v id e, ap count vc.edges, seen_count st.children st.cuts v c vc.inside.some)

        one : (id : ℕ) (c : View) → Views st h.nodes v id c → ((at t (ref id)).var ≡ v → ⊥) → c.count ≡ 1
        one id c vc e = sym (seen_count st.children st.cuts v c vc.inside.some) ∙ (ap count vc.edges ∙ ap count (edge_other t v id e))

        tested : 2 < a.count + b.count
        tested = ⊎_elim (λ e. omega (arith, many x a left_known va e, vb.inside.some)) (λ e. omega (arith, many y b right_known vb e, va.inside.some)) (which (ℕ_discrete u v))
          where
            which : Dec (u ≡ v) → (u ≡ v) ⊎ (w ≡ v)
            which (yes e) = inl e
            which (no e) = inr (⊎_elim (λ l. absurd (e (omega (arith, ev)))) (λ l. omega (arith, ev)) (lt_or_le u (suc w)))

        within : {c : View} → Inside (start st.nodes h.nodes) c → Inside h.edges c
        within {c} i = record { some = i.some; most = i.most; within = λ l. omega (arith, i.within l, r.lent.edges) }

        pub sides : Sides t h.edges st.children st.cuts v (n - 1) a b
        sides = record {
          known = hv;
          enough = omega (arith, enough, ev, call_left (ready_readable r) x ax);
          tested = tested;
          left = within va.inside;
          right = within vb.inside;
          left_rises = views_rising st h.nodes v x a (ready_readable r) hv lx va;
          right_rises = views_rising st h.nodes v y b (ready_readable r) hv ly vb;
          left_kids = views_kids st h.nodes v x a (ready_readable r) hv lx va;
          right_kids = views_kids st h.nodes v y b (ready_readable r) hv ly vb;
        }

        -- Both test a boolean variable exactly when they have as many edges.
        same_count : first_boolean ≤ v → eqb a.count b.count ≡ eqb u w
        same_count g = go (ℕ_discrete u v) (ℕ_discrete w v)
          where
            ca : a.count ≤ 2
            ca = bool_count_le_two st h.nodes v x a (ready_readable r) hv lx va g

            cb : b.count ≤ 2
            cb = bool_count_le_two st h.nodes v y b (ready_readable r) hv ly vb g

            go : Dec (u ≡ v) → Dec (w ≡ v) → eqb a.count b.count ≡ eqb u w
            go (yes p) (yes q) = eq-eqb a.count b.count (omega (arith, many x a left_known va p, many y b right_known vb q, ca, cb)) ∙ sym (eq-eqb u w (p ∙ sym q))
            go (yes p) (no q) = ne_eqb a.count b.count (λ e. omega (arith, many x a left_known va p, one y b vb q)) ∙ sym (ne_eqb u w (λ e. q (sym e ∙ p)))
            go (no p) (yes q) = ne_eqb a.count b.count (λ e. omega (arith, many y b right_known vb q, one x a va p)) ∙ sym (ne_eqb u w (λ e. p (e ∙ q)))
            go (no p) (no q) = absurd (⊎_elim (λ l. p (omega (arith, ev))) (λ l. q (omega (arith, ev))) (lt_or_le u w))

        order : (not (is_range v) && not (eqb a.count b.count)) ≡ (not (is_range v) && not (eqb u w))
        order = ⊎_elim (λ l. rw (lt-ltb v first_boolean l)) (λ l. ap (λ (e : Bool). not (is_range v) && not e) (same_count l)) (lt_or_le v first_boolean)

        -- The merge of both sides, in its order, is the conjunction.
        pub both_is : both (not (is_range v) && not (eqb a.count b.count)) (pairs (n - 1)) t v (seen st.children st.cuts v a 0) (seen st.children st.cuts v b 0) ≡ conj n t x y
        unfolding both conj_node
        both_is =
            ap (λ (back : Bool). both back (pairs (n - 1)) t v (seen st.children st.cuts v a 0) (seen st.children st.cuts v b 0)) order
            ∙ (ap₂ (both (not (is_range v) && not (eqb u w)) (pairs (n - 1)) t v) va.edges vb.edges
            ∙ (ap (λ (i : ℕ). both (not (is_range i) && not (eqb u w)) (pairs (n - 1)) t i (edges_of t i x) (edges_of t i y)) ev
            ∙ (sym (joined.conj_walked (n - 1) t x y none) ∙ ap (λ (m : ℕ). conj m t x y) (sym one_less))))

        -- What the memo asks of an answer that it is to keep.
        pub note_asked : {m : Made} {st' : Store} {index' memo' : List ℕ} → Stepped Entry h (both (not (is_range v) && not (eqb a.count b.count)) (pairs (n - 1)) t v (seen st.children st.cuts v a 0) (seen st.children st.cuts v b 0)) m st memo st' index' memo'
            → m.ok ≡ true → {i j : ℕ} → Ordered x y i j
            → (8 ≤ length memo') × (length memo' ≤ most_nodes * 8) × Framed memo' × (i < 262144) × (j < 262144) × (m.id.0 < 262144) × (v < variables)
        note_asked {m} {st'} c ok o =
            let e = entry_of both_is (c.outcome.table ok) (c.outcome.id ok) in
            let more = c.outcome.stays.nodes_more in
            let k = in_either_order (KnownTo m.used.nodes) o (omega (arith, ax.known)) (omega (arith, ay.known)) in
            ready_remembers (ready_after_step r c) k.0 k.1 (known_used st' m.used.nodes m.id.0 e.known) hv
