-- Going down to one variable, by any change of the edges there: what restriction, narrowing and widening share. Assumes nothing.
use mathlib.Core.Path.{◌≡◌, sym, ◌∙◌, ap}
use mathlib.Core.Bool.{Bool, true, false, not, cond}
use mathlib.Core.List.{List}
use Prim.Native.Nat.{ℕ, suc, ◌+◌, ◌-◌, ◌*◌, ◌≤◌, ◌<◌}
use native.Mathlib.Omega.{arith}
use lib.ListN.{length, set}
use Rattle.ids.specs.Id.{TRUE, ref}
use Rattle.diagram.specs.Pieces.{Pieces}
use Rattle.diagram.specs.Table.{variables, is_range, Table, Assignment, at, Continues, most_edges}
use Rattle.diagram.specs.Cofactor.{edges_of}
use Rattle.diagram.specs.Sound.{Known, Child, Sound}
use Rattle.diagram.proofs.Continuing.{continues_length}
use Rattle.diagram.proofs.Facts.{is_node}
use Rattle.algebra.specs.Making.{create_node}
use Rattle.algebra.specs.Conjunction.{walk_in, create_over}
use Rattle.algebra.specs.Changing.{is_before}
use Rattle.algebra.proofs.Made.{Made}
use Rattle.algebra.proofs.Descending.{Changes, means, before_yes}
use Rattle.merging.proofs.Descent.{change_made, change_before, change_here, change_continues, change_again_same, change_stays_settled}
use Rattle.making.specs.declared.edges.Edge.{Edge}
use Rattle.making.specs.declared.edges.Edges as built
use Rattle.table.specs.declared.lent.Used.{Used}
use Rattle.making.specs.Made as code
use Rattle.making.specs.Building.{pieces_of}
use Rattle.making.specs.Outcome.{Outcome, table_of, Mergeable}
use Rattle.views.specs.declared.View.{View}
use Rattle.views.specs.Seeing.{Asked, Sees, Views, child_seen, cut_seen, seen}
use Rattle.views.proofs.Sights.{known_held, variable_is, variable_known, sees_views, views_rising, views_kids, call_left}
use Rattle.memo.specs.Recalling.{Framed, Noted}
use Rattle.walks.specs.Walking.{Ready, Stepped}
use Rattle.walks.proofs.Composing.{Grows, lent_sound, known_small, ready_readable, stepped_of_outcome, stepped_equal_want}
use Rattle.changes.proofs.Gathering.{over, made_notes, want, Gather, Side, gather_starts, kid_asked, gather_stuck, gather_step, gathered_mergeable, stepped_made, stepped_noted}
use Rattle.changes.specs.Changed.{Changed, changed}
use Rattle.table.specs.Layout.{most_nodes, var_at, Store}

module _ (v : ℕ) (hv : v < variables) (g : Pieces ℕ → Pieces ℕ) (ch : Changes v g) where
  -- What was noted stays true of a table that continues this one.
  pub changed_grows : Grows (Changed v g)
  changed_grows t t' z z' c x y w e = record { known = omega (arith, continues_length c, e.known); becomes = change_stays_settled v hv g ch z z' c x w e.known e.becomes }

  module _ {h : Used} {st : Store} {index memo : List ℕ} (r : Ready (Changed v g) h st index memo) {n id : ℕ} (q : Asked (table_of h st) h.nodes n id) where
    abbrev t : Table
    t = table_of h st

    pub id_known : Known t id
    id_known = known_held st h.nodes id q.known

    -- At the variable, or past it, the edges there are changed.
    pub here_is : is_before t v id ≡ false → create_node t v (g (edges_of t v id)) ≡ changed v g t id
    here_is e = sym (change_here v hv g ch t id e)

    -- What is remembered is true.
    pub noted_is : {t' : Table} {z : ℕ} → t' ≡ (changed v g t id).0 → z ≡ (changed v g t id).1 → Changed v g t' id TRUE z
    noted_is {t'} {z} p e = rw (p, e) record {
      known = omega (arith, continues_length (change_continues v hv g ch t (lent_sound r.lent) id id_known), id_known);
      becomes = change_again_same v hv g ch t (lent_sound r.lent) id id_known;
    }

    module _ (b : is_before t v id ≡ true) where
      -- Before it there is a node,
      pub before_node : 2 ≤ id
      before_node = omega (arith, is_node t (ref id) (omega (arith, before_yes t v id b)))

      module _ {u : ℕ} (eu : u ≡ (at t (ref id)).var) {a : View} (va : Views st h.nodes u id a) where
        -- whose variable is an earlier one,
        pub earlier : u < v
        earlier = omega (arith, eu, before_yes t v id b)

        own : Child t u id
        own = (id_known, omega (arith, eu))

        -- whose children can be gone down to,
        pub side : Side (changed v g) h st memo a u
        side =
            let l : u < variables = omega (arith, earlier) in
            record {
              known = l;
              inside = record { some = va.inside.some; most = va.inside.most; within = λ i. omega (arith, va.inside.within i, r.lent.edges) };
              rises = views_rising st h.nodes u id a (ready_readable r) l own va;
              kids = views_kids st h.nodes u id a (ready_readable r) l own va;
            }

        -- with a call left for each,
        pub enough : variables < suc u + (n - 1)
        enough = omega (arith, eu, q.ahead, call_left (ready_readable r) id q)

        pub kid_made : (w : Table) → Sound w → Continues t w → (x : ℕ) → Child t (suc u) x → Made w (suc u) (means v hv g ch variables t x) (changed v g w x)
        kid_made w z c x k = change_made v hv g ch t (lent_sound r.lent) u earlier w z c x k

        -- and the node over what they become is the answer.
        pub over_is : over (not (is_range u)) (changed v g) t u (seen st.children st.cuts u a 0) ≡ changed v g t id
        unfolding over
        over_is =
            ap (λ (e : Pieces ℕ). create_over u (walk_in (not (is_range u)) (changed v g) t e)) va.edges
            ∙ (ap (λ (w : ℕ). create_over w (walk_in (not (is_range w)) (changed v g) t (edges_of t w id))) eu
            ∙ sym (change_before v hv g ch t (lent_sound r.lent) id id_known b))

-- At the variable, or past it, what is made of the edges there is the answer.
module _ {v : ℕ} {g : Pieces ℕ → Pieces ℕ} {h : Used} {st : Store} {index memo : List ℕ} (r : Ready (Changed v g) h st index memo) {n id : ℕ} (q : Asked (table_of h st) h.nodes n id) (hv : v < variables) (ch : Changes v g) where
  pub stepped_at_variable : is_before (table_of h st) v id ≡ false → {o : code.Made} {st₁ : Store} {index₁ : List ℕ} → Outcome h (create_node (table_of h st) v (g (edges_of (table_of h st) v id))) o st st₁ index₁
      → Stepped (Changed v g) h (changed v g (table_of h st) id) o st memo st₁ index₁ memo
  stepped_at_variable e o = stepped_equal_want (stepped_of_outcome r (changed_grows v hv g ch) o) (here_is v hv g ch r q e)

-- A node before the variable, as a step finds it: what the way down knows of it and of the view of its edges.
pub record Entered (v : ℕ) (g : Pieces ℕ → Pieces ℕ) (h : Used) (st : Store) (index memo : List ℕ) (n id u : ℕ) (a : View) : Type 0 where
  pub known : v < variables
  pub changes : Changes v g
  pub ready : Ready (Changed v g) h st index memo
  pub asked : Asked (table_of h st) h.nodes n id
  pub before : is_before (table_of h st) v id ≡ true
  pub variable : u ≡ (at (table_of h st) (ref id)).var
  pub view : Views st h.nodes u id a

-- So it is found, by what the code reads of it.
pub entered : {v : ℕ} {g : Pieces ℕ → Pieces ℕ} {h : Used} {st : Store} {index memo : List ℕ} (r : Ready (Changed v g) h st index memo) {n id : ℕ} (q : Asked (table_of h st) h.nodes n id) (hv : v < variables) (ch : Changes v g) (b : is_before (table_of h st) v id ≡ true)
    → {u : ℕ} → u ≡ var_at st.nodes (ref id - 1) → {a : View} → Sees st.nodes u id a → Entered v g h st index memo n id u a
entered {v} {g} r {n} {id} q hv ch b e s =
    let node : 2 ≤ id = before_node v hv g ch r q b in
    record {
      known = hv;
      changes = ch;
      ready = r;
      asked = q;
      before = b;
      variable = variable_is (ready_readable r) id q.known node e;
      view = sees_views (ready_readable r) id q.known (variable_known (ready_readable r) id q.known node e) s;
    }

-- The laws of the loop over the children of such a node.
module _ {v : ℕ} {g : Pieces ℕ → Pieces ℕ} {h : Used} {st : Store} {index memo : List ℕ} {n id u : ℕ} {a : View} (e : Entered v g h st index memo n id u a) where
  abbrev f : Table → ℕ → Table × ℕ
  f = changed v g

  abbrev m : ℕ → Assignment → Bool
  m = means v e.known g e.changes variables (table_of h st)

  own_grows : Grows (Changed v g)
  own_grows = changed_grows v e.known g e.changes

  own_side : Side f h st memo a u
  own_side = side v e.known g e.changes e.ready e.asked e.before e.variable e.view

  own_made : (w : Table) → Sound w → Continues (table_of h st) w → (x : ℕ) → Child (table_of h st) (suc u) x → Made w (suc u) (m x) (f w x)
  own_made = kid_made v e.known g e.changes e.ready e.asked e.before e.variable e.view

  -- Before the first turn,
  pub gather_before_first : (out : built.Edges) → length out.list ≡ most_edges → Gather f h st memo a u (Changed v g) h st index memo out 0
  gather_before_first = gather_starts f h st memo a u own_grows e.ready own_side m own_made

  module _ {now : Used} {st₁ : Store} {index₁ memo₁ : List ℕ} {out : built.Edges} {done : ℕ} (l : Gather f h st memo a u (Changed v g) now st₁ index₁ memo₁ out done) where
    module _ (on : done < a.count) {i : ℕ} (ei : i ≡ cond (is_range u) (a.count - (a.count - done)) (a.count - done - 1)) where
      module _ {x : ℕ} (rx : x ≡ child_seen st₁.children a i) where
        -- whose child may be asked about,
        pub below_asked : Asked (table_of now st₁) now.nodes (n - 1) x
        below_asked = kid_asked f h st memo a u own_grows e.ready own_side m own_made l on ei rx
            (enough v e.known g e.changes e.ready e.asked e.before e.variable e.view)

        module _ {d : code.Made} {st₂ : Store} {index₂ memo₂ : List ℕ} (s : Stepped (Changed v g) now (f (table_of now st₁) x) d st₁ memo₁ st₂ index₂ memo₂) where
          -- where it has no room,
          pub stepped_stuck : d.ok ≡ false → Stepped (Changed v g) h (changed v g (table_of h st) id) d st memo st₂ index₂ memo₂
          stepped_stuck bad = stepped_equal_want (gather_stuck f h st memo a u own_grows e.ready own_side m own_made l on ei rx s bad) (over_is v e.known g e.changes e.ready e.asked e.before e.variable e.view)

          -- after it,
          pub gather_after_turn : d.ok ≡ true → {k : ℕ} → (i + 1 < a.count → k ≡ cut_seen st₁.cuts u a i) → {s₂ : Edge} → s₂ ≡ record { cut = k; child = d.id; spare = 0 }
              → Gather f h st memo a u (Changed v g) d.used st₂ index₂ memo₂ (record { list = set out.list i s₂; len = out.len }) (done + 1)
          gather_after_turn good rk new = gather_step f h st memo a u own_grows e.ready own_side m own_made l on ei rx s good rk new

    -- and after the last.
    module _ (off : a.count ≤ done) where
      pub entered_mergeable : Mergeable (table_of now st₁) u (record { list = out.list; len = a.count })
      entered_mergeable = gathered_mergeable f h st memo a u own_grows e.ready own_side m own_made l off

      module _ {o : code.Made} {st₂ : Store} {index₂ : List ℕ} (x : Outcome now (create_node (table_of now st₁) u (pieces_of (record { list = out.list; len = a.count }))) o st₁ st₂ index₂) where
        over_want : want f h st memo a u ≡ changed v g (table_of h st) id
        over_want = over_is v e.known g e.changes e.ready e.asked e.before e.variable e.view

        -- What the memo asks,
        pub over_notes : o.ok ≡ true → (8 ≤ length memo₁) × (length memo₁ ≤ most_nodes * 8) × Framed memo₁ × (id < 262144) × (TRUE < 262144) × (o.id.0 < 262144) × (u < variables)
        over_notes good = made_notes l.ready.lent l.ready.long l.ready.recalled.framed (known_small e.ready.lent e.asked.known) entered_mergeable x good

        -- and the answer, noted or not.
        pub stepped_over : Stepped (Changed v g) h (changed v g (table_of h st) id) o st memo st₂ index₂ memo₁
        stepped_over = stepped_equal_want (stepped_made f h st memo a u own_grows e.ready own_side m own_made l off x) over_want

        pub stepped_over_noted : o.ok ≡ true → {memo₂ : List ℕ} → Noted memo₁ id TRUE o.id.0 memo₂ → Stepped (Changed v g) h (changed v g (table_of h st) id) o st memo st₂ index₂ memo₂
        stepped_over_noted good z = stepped_equal_want (stepped_noted f h st memo a u own_grows e.ready own_side m own_made l off x
            (λ s y p q. noted_is v e.known g e.changes e.ready e.asked (p ∙ ap (λ (x : Table × ℕ). x.0) over_want) (q ∙ ap (λ (x : Table × ℕ). x.1) over_want)) good z) over_want
