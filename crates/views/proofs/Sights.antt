-- Laws of views: the edges that a view shows, one by one, and that they are the edges of its id. Assumes nothing.
use mathlib.Core.Path.{◌≡◌, refl, sym, ◌∙◌, ap, ap₂, subst}
use mathlib.Core.Bool.{Bool, true, false}
use mathlib.Core.Logic.{⊎_elim}
use mathlib.Core.List.{List}
use Prim.Native.Nat.{ℕ, zero, suc, ◌+◌, ◌-◌, ◌*◌, ◌/◌, ◌≤◌, ◌<◌, min}
use native.Mathlib.Omega.{arith}
use native.Mathlib.Decide.{ℕ_discrete}
use native.Mathlib.Numerals.{add-one}
use borrow.Author.Tests.{lt-ltb, le-ltb, eqb-true, eqb-false, eq-eqb, ne_eqb}
use lib.Dec.{eqb}
use lib.ListN.{length}
use lib.IntN.{ℤ}
use Rattle.ids.specs.Id.{sign, ref, under, KnownTo}
use Rattle.diagram.specs.Pieces.{last, cut}
use Rattle.diagram.specs.Shape.{count, first, Each, Rising, run}
use Rattle.diagram.specs.Table.{variables, first_boolean, top_of, Node, Table, at}
use Rattle.diagram.specs.Cofactor.{map, edges_of}
use Rattle.diagram.specs.Sound.{Child}
use Rattle.diagram.proofs.Piecewise.{rising_down}
use Rattle.diagram.proofs.Numbered.{count_run, each_run, run_shift, map_run}
use Rattle.diagram.proofs.Runs.{count_most}
use Rattle.diagram.proofs.Lookup.{at_end}
use Rattle.diagram.proofs.Facts.{var_most}
use Rattle.diagram.proofs.Readings.{bool_top}
use Rattle.diagram.proofs.Cofactors.{edge_own, edge_other, edges_are_kids, edges_rising}
use Rattle.table.specs.Layout.{var_at, count_at, first_at, kid_at, cut_at, cut_position, room, start, Store}
use Rattle.table.specs.Lent.{Rules, SoundRecords, SoundLent}
use Rattle.table.specs.Held.{edges_from, node_at, held}
use Rattle.table.specs.Told.{Allowed}
use Rattle.table.proofs.Laws as laws
use Rattle.table.proofs.Scan.{table_length}
use Rattle.table.proofs.Bridge.{edges_run, range_edges, bool_edges, at_held, sound_held}
use Rattle.table.proofs.Promises.{edges_fit_lem}
use Rattle.views.specs.Seeing.{used_to, used_in, Readable, Asked, child_seen, cut_seen, seen, Inside, Sees, Views}
use Rattle.views.specs.declared.View.{View}

module _ (children : List ℕ) (cuts : List ℤ) (v : ℕ) (w : View) where
  -- the edges from edge j on, by whether it is the last
  pub seen_last : (j : ℕ) → w.count ≡ j + 1 → seen children cuts v w j ≡ last (child_seen children w j)
  unfolding seen run
  seen_last j e = let a : w.count - 1 - j ≡ 0 = omega arith in ap (run (child_seen children w) (cut_seen cuts v w) j) a

  pub seen_cut : (j : ℕ) → j + 1 < w.count → seen children cuts v w j ≡ cut (child_seen children w j) (cut_seen cuts v w j) (seen children cuts v w (j + 1))
  unfolding seen run
  seen_cut j h =
      let a : w.count - 1 - j ≡ suc (w.count - 1 - (j + 1)) = omega arith in
      ap (run (child_seen children w) (cut_seen cuts v w) j) a ∙ ap (λ (i : ℕ). cut (child_seen children w j) (cut_seen cuts v w j) (run (child_seen children w) (cut_seen cuts v w) i (w.count - 1 - (j + 1)))) (sym (add-one j))

  pub seen_count : 1 ≤ w.count → count (seen children cuts v w 0) ≡ w.count
  unfolding seen
  seen_count h = count_run (child_seen children w) (cut_seen cuts v w) 0 (w.count - 1 - 0) ∙ (let a : suc (w.count - 1 - 0) ≡ w.count = omega arith in a)

  -- what each child of a view has
  pub seen_each : (P : ℕ → Type 0) → Each P (seen children cuts v w 0) → (j : ℕ) → j < w.count → P (child_seen children w j)
  unfolding seen
  seen_each P e j h = each_run (child_seen children w) (cut_seen cuts v w) P (w.count - 1 - 0) e j (omega arith)

  -- one step along cuts that rise
  pub rising_next : (b t j : ℕ) → Rising b t (seen children cuts v w j) → j + 1 < w.count → (b < cut_seen cuts v w j) × (cut_seen cuts v w j ≤ t) × Rising (cut_seen cuts v w j) t (seen children cuts v w (j + 1))
  rising_next b t j r h = rw (seen_cut j h) at r

  pub rising_from : (t : ℕ) → Rising 0 t (seen children cuts v w 0) → (j : ℕ) → j < w.count → Rising 0 t (seen children cuts v w j)
  rising_from t r zero h = r
  rising_from t r (suc j) h = let s = rising_next 0 t j (rising_from t r j (omega arith)) (omega arith) in subst (λ (i : ℕ). Rising 0 t (seen children cuts v w i)) (add-one j) (rising_down 0 (cut_seen cuts v w j) t (seen children cuts v w (j + 1)) (omega arith) s.2)

  -- a cut stands within the positions, and the cuts after it above it
  pub rising_cut : (t : ℕ) → Rising 0 t (seen children cuts v w 0) → (j : ℕ) → j + 1 < w.count → (0 < cut_seen cuts v w j) × (cut_seen cuts v w j ≤ t) × Rising (cut_seen cuts v w j) t (seen children cuts v w (j + 1))
  rising_cut t r j h = rising_next 0 t j (rising_from t r j (omega arith)) h

  -- a view of one edge
  pub seen_one : w.count ≡ 1 → seen children cuts v w 0 ≡ last (child_seen children w 0)
  seen_one h = seen_last 0 h

-- a cut is that of the table, or 1
pub cut_seen_range : (cuts : List ℤ) (v : ℕ) (w : View) (j : ℕ) → v < first_boolean → cut_seen cuts v w j ≡ cut_seen cuts 0 w j
unfolding cut_seen
cut_seen_range cuts v w j h = rw (lt-ltb v 32 h)

pub cut_seen_bool : (cuts : List ℤ) (v : ℕ) (w : View) (j : ℕ) → first_boolean ≤ v → cut_seen cuts v w j ≡ 1
unfolding cut_seen
cut_seen_bool cuts v w j h = rw (le-ltb v 32 h)

-- so that a view shows the same at each variable of a kind
pub seen_range : (children : List ℕ) (cuts : List ℤ) (v : ℕ) (w : View) (j : ℕ) → v < first_boolean → seen children cuts v w j ≡ seen children cuts 0 w j
unfolding seen
seen_range children cuts v w j h = run_shift (child_seen children w) (child_seen children w) (cut_seen cuts v w) (cut_seen cuts 0 w) j j (w.count - 1 - j) (λ i l. refl) (λ i l. cut_seen_range cuts v w (j + i) h)

pub seen_bool : (children : List ℕ) (cuts : List ℤ) (v : ℕ) (w : View) (j : ℕ) → first_boolean ≤ v → seen children cuts v w j ≡ seen children cuts first_boolean w j
unfolding seen
seen_bool children cuts v w j h = run_shift (child_seen children w) (child_seen children w) (cut_seen cuts v w) (cut_seen cuts first_boolean w) j j (w.count - 1 - j) (λ i l. refl) (λ i l. cut_seen_bool cuts v w (j + i) h ∙ sym (cut_seen_bool cuts first_boolean w (j + i) (omega arith)))

-- the cut that stands in the table
pub cut_seen_position : (cuts : List ℤ) (w : View) (j : ℕ) → cut_seen cuts 0 w j ≡ cut_position (cut_at cuts (w.first + j))
unfolding cut_seen
cut_seen_position cuts w j = refl

-- a child is the id itself, or that of the table under its sign
pub child_seen_own : (children : List ℕ) (w : View) (j : ℕ) → w.count ≡ 1 → child_seen children w j ≡ w.id.0
unfolding child_seen
child_seen_own children w j h = rw (eq-eqb w.count 1 h)

pub child_seen_kid : (children : List ℕ) (w : View) (j : ℕ) → (w.count ≡ 1 → ⊥) → child_seen children w j ≡ under (sign w.id.0) (kid_at children (w.first + j))
unfolding child_seen
child_seen_kid children w j h = rw (ne_eqb w.count 1 h)

-- a view of both edges of a boolean variable
pub seen_two : (children : List ℕ) (cuts : List ℤ) (v : ℕ) (w : View) → first_boolean ≤ v → w.count ≡ 2 → seen children cuts v w 0 ≡ cut (child_seen children w 0) 1 (last (child_seen children w 1))
seen_two children cuts v w b h =
    let c = cut_seen_bool cuts v w 0 b in
    let l = seen_last children cuts v w 1 h in
    seen_cut children cuts v w 0 (omega arith) ∙ (λ n. cut (child_seen children w 0) (c n) (l n))

-- a view that lies within some edges lies within more
pub inside_wider : (e f : ℕ) (w : View) → e ≤ f → Inside e w → Inside f w
inside_wider e f w h i = record { some = i.some; most = i.most; within = λ l. omega (arith, i.within l) }

-- what a view shows stays where the words below stay
module _ (children children' : List ℕ) (cuts cuts' : List ℤ) (v e : ℕ) (w : View) (i : Inside e w) where
  pub child_seen_stays : ((k : ℕ) → k < e → kid_at children' k ≡ kid_at children k) → (j : ℕ) → j < w.count → child_seen children' w j ≡ child_seen children w j
  child_seen_stays same j h = go (eqb w.count 1) refl
    where
      go : (b : Bool) → eqb w.count 1 ≡ b → child_seen children' w j ≡ child_seen children w j
      go true q = let o = eqb-true w.count 1 q in child_seen_own children' w j o ∙ sym (child_seen_own children w j o)
      go false q =
          let n = eqb-false w.count 1 q in
          child_seen_kid children' w j n ∙ (ap (under (sign w.id.0)) (same (w.first + j) (omega (arith, n, i.within (omega (arith, n, i.some))))) ∙ sym (child_seen_kid children w j n))

  pub cut_seen_stays : ((k : ℕ) → k < e → cut_at cuts' k ≡ cut_at cuts k) → (j : ℕ) → j + 1 < w.count → cut_seen cuts' v w j ≡ cut_seen cuts v w j
  unfolding cut_seen
  cut_seen_stays same j h = rw (same (w.first + j) (omega (arith, i.within (omega arith))))

module _ (st : Store) where
  -- a view of all edges of record n shows them
  view_range : (n : ℕ) (w : View) → Rules st n → var_at st.nodes n < 32 → w.first ≡ first_at st.nodes n → w.count ≡ count_at st.nodes n → seen st.children st.cuts (var_at st.nodes n) w 0 ≡ map (under (sign w.id.0)) (node_at st n).edges
  unfolding seen
  view_range n w r h f k =
      let s = sign w.id.0 in
      let m = w.count - 1 - 0 in
      let b : m ≡ count_at st.nodes n - 1 = omega arith in
      run_shift (child_seen st.children w) (λ j. under s (kid_at st.children (w.first + j))) (cut_seen st.cuts (var_at st.nodes n) w) (λ j. cut_position (cut_at st.cuts (w.first + j))) 0 0 m
      (λ j l. child_seen_kid st.children w (0 + j) (λ q. omega (arith, r.many))) (λ j l. cut_seen_range st.cuts (var_at st.nodes n) w (0 + j) h ∙ cut_seen_position st.cuts w (0 + j))
      ∙ (sym (map_run (under s) (λ j. kid_at st.children (w.first + j)) (λ j. cut_position (cut_at st.cuts (w.first + j))) 0 m)
      ∙ ap (map (under s)) (sym (edges_run st.children st.cuts w.first m) ∙ ((λ i. edges_from st.children st.cuts (f i) (b i)) ∙ sym (range_edges st.children st.cuts (var_at st.nodes n) (first_at st.nodes n) (count_at st.nodes n) h))))

  view_bool : (n : ℕ) (w : View) → Rules st n → 32 ≤ var_at st.nodes n → w.first ≡ first_at st.nodes n → w.count ≡ count_at st.nodes n → seen st.children st.cuts (var_at st.nodes n) w 0 ≡ map (under (sign w.id.0)) (node_at st n).edges
  unfolding map
  view_bool n w r h f k =
      let s = sign w.id.0 in
      let a : w.first + 0 ≡ first_at st.nodes n = omega arith in
      let b : w.first + 1 ≡ first_at st.nodes n + 1 = omega arith in
      let p = child_seen_kid st.children w 0 (λ q. omega (arith, r.many)) ∙ ap (λ (i : ℕ). under s (kid_at st.children i)) a in
      let q = child_seen_kid st.children w 1 (λ q. omega (arith, r.many)) ∙ ap (λ (i : ℕ). under s (kid_at st.children i)) b in
      seen_two st.children st.cuts (var_at st.nodes n) w h (k ∙ r.two h)
      ∙ ((λ i. cut (p i) 1 (last (q i))) ∙ ap (map (under s)) (sym (bool_edges st.children st.cuts (var_at st.nodes n) (first_at st.nodes n) (count_at st.nodes n) h)))

  view_record : (n : ℕ) (w : View) → Rules st n → w.first ≡ first_at st.nodes n → w.count ≡ count_at st.nodes n → seen st.children st.cuts (var_at st.nodes n) w 0 ≡ map (under (sign w.id.0)) (node_at st n).edges
  view_record n w r f k = ⊎_elim (λ h. view_range n w r h f k) (λ h. view_bool n w r h f k) (laws.lt_or_le (var_at st.nodes n) 32)

module _ (st : Store) (u id : ℕ) (r : Readable st u) (a : 2 ≤ id) (b : KnownTo u id) where
  -- the node of an id that is no terminal
  pub node_at_lem : at (held st u) (ref id) ≡ node_at st (id / 2 - 1)
  node_at_lem = let e : id / 2 ≡ suc (id / 2 - 1) = omega arith in ap (at (held st u)) e ∙ at_held st u (id / 2 - 1) (omega arith)

  pub node_var : (at (held st u) (ref id)).var ≡ var_at st.nodes (id / 2 - 1)
  node_var = ap (λ (x : Node). x.var) node_at_lem

  pub node_rules : Rules st (id / 2 - 1)
  node_rules = r.rules (id / 2 - 1) (omega arith)

  -- the view of its own edges, at its own variable
  pub views_own : (v : ℕ) (w : View) → var_at st.nodes (id / 2 - 1) ≡ v → w.id.0 ≡ id → w.first ≡ first_at st.nodes (id / 2 - 1) → w.count ≡ count_at st.nodes (id / 2 - 1) → Views st u v id w
  views_own v w e i f k =
      let n = id / 2 - 1 in
      let q = node_rules in
      record {
        inside = record { some = omega (arith, q.many); most = omega (arith, q.most); within = λ l. omega (arith, laws.edges_before {n = n} {u = u} (omega arith) q) };
        edges = (λ x. seen st.children st.cuts (sym e x) w 0) ∙ (view_record st n w q f k
            ∙ (ap₂ (λ (s : ℕ) (x : Node). map (under (sign s)) x.edges) i (sym node_at_lem) ∙ sym (edge_own (held st u) v id (node_var ∙ e))));
      }

  -- at another variable the id stands for itself
  pub views_other : (v : ℕ) (w : View) → (var_at st.nodes (id / 2 - 1) ≡ v → ⊥) → w.id.0 ≡ id → w.count ≡ 1 → Views st u v id w
  views_other v w n i k = record {
    inside = record { some = omega arith; most = omega arith; within = λ l. absurd (omega arith) };
    edges = seen_one st.children st.cuts v w k ∙ (ap last (child_seen_own st.children w 0 k ∙ i) ∙ sym (edge_other (held st u) v id (λ e. n (sym node_var ∙ e))));
  }

-- what is known of the edges that a view shows, of an id whose variable is v or later
module _ (st : Store) (u v id : ℕ) (w : View) (r : Readable st u) (hv : v < variables) (k : Child (held st u) v id) (x : Views st u v id w) where
  pub views_rising : Rising 0 (top_of v) (seen st.children st.cuts v w 0)
  views_rising = subst (Rising 0 (top_of v)) (sym x.edges) (edges_rising (held st u) r.sound v id hv k)

  pub views_kids : Each (Child (held st u) (suc v)) (seen st.children st.cuts v w 0)
  views_kids = subst (Each (Child (held st u) (suc v))) (sym x.edges) (edges_are_kids (held st u) r.sound v id hv k).kids

  -- an id has at most two edges at a boolean variable
  pub bool_count_le_two : first_boolean ≤ v → w.count ≤ 2
  bool_count_le_two h =
      let m = count_most 0 (top_of v) (edges_of (held st u) v id) (edges_are_kids (held st u) r.sound v id hv k).reduced in
      omega (arith, bool_top v h, m, ap count x.edges, seen_count st.children st.cuts v w x.inside.some)

-- the view lies within the words
pub views_inside : (st : Store) (u v id : ℕ) (w : View) → Readable st u → Views st u v id w → Inside (length st.children) w
views_inside st u v id w r x = inside_wider (start st.nodes u) (length st.children) w (edges_fit_lem st u r.rules) x.inside

-- the known ids of the table, by its length
pub known_held : (st : Store) (u id : ℕ) → KnownTo u id → KnownTo (length (held st u)) id
known_held st u id h = let l = table_length st u in omega arith

pub known_used : (st : Store) (u id : ℕ) → KnownTo (length (held st u)) id → KnownTo u id
known_used st u id h = let l = table_length st u in omega arith

-- a sound lent table can be read
pub sound_readable : (st : Store) (index : List ℕ) (u : ℕ) → Allowed st index → SoundLent st index u → Readable st u
sound_readable st index u a s = record { fits = omega (arith, s.records.fits); cut_each = a.cut_each; small = omega (arith, s.records.fits, a.nodes_at_most); rules = s.records.rules; sound = sound_held st index u s }

-- its words say how many records it uses
pub used_is : {st : Store} {u : ℕ} → SoundRecords st u → used_in st.nodes ≡ u
unfolding used_to
used_is {st} {u} s = up_to (room st.nodes) s.fits
  where
    up_to : (n : ℕ) → u ≤ n → used_to st.nodes n ≡ u
    up_to zero h = omega arith
    up_to (suc n) h = ⊎_elim (λ l. rw (ne_eqb (count_at st.nodes n) 0 (λ e. omega (arith, (s.rules n (omega arith)).many))) (omega arith)) (λ l. rw (s.no_node (n * 4 + 1) (omega arith)) (up_to n l)) (laws.lt_or_le n u)

-- with more levels than there are variables, every known id may be asked about
pub asked_of_all_known : {t : Table} {u id : ℕ} → KnownTo u id → Asked t u (variables + 1) id
asked_of_all_known k = record { known = k; ahead = omega arith }

-- and of an id that may be asked about, a call is left: no variable is later than a terminal's
pub call_left : {st : Store} {u n : ℕ} → Readable st u → (x : ℕ) → Asked (held st u) u n x → 1 ≤ n
call_left {st} {u} r x q = omega (arith, var_most (held st u) r.sound (ref x) (known_held st u x q.known), q.ahead)

pub one_more : {n : ℕ} → 1 ≤ n → (n ≡ 1 → ⊥) → 1 < n
one_more h q = omega (arith, q)

-- The first of the edges from edge j on.
pub first_seen : (children : List ℕ) (cuts : List ℤ) (v : ℕ) (w : View) (j : ℕ) → j < w.count → first (seen children cuts v w j) ≡ child_seen children w j
first_seen children cuts v w j h = ⊎_elim (λ m. ap first (seen_cut children cuts v w j m)) (λ m. ap first (seen_last children cuts v w j (omega arith))) (laws.lt_or_le (j + 1) w.count)

-- A terminal is later than each variable.
end_later : (t : Table) (v id : ℕ) → id < 2 → v < variables → v < (at t (ref id)).var
end_later t v id e hv = let r : ref id ≡ 0 = omega arith in omega (arith, ap (λ (n : ℕ). (at t n).var) r ∙ ap (λ (nd : Node). nd.var) (at_end t))

-- What the functions read of the records, as the laws above want it.
module _ {st : Store} {u : ℕ} (r : Readable st u) (id : ℕ) (b : KnownTo u id) where
  -- the record of a known id is there
  pub record_inside : ref id * 4 ≤ length st.nodes
  record_inside = omega (arith, r.fits)

  module _ {y : ℕ} (a : 2 ≤ id) (e : y ≡ var_at st.nodes (ref id - 1)) where
    pub variable_is : y ≡ (at (held st u) (ref id)).var
    variable_is = e ∙ sym (node_var st u id r a b)

    pub variable_known : y < variables
    variable_known = omega (arith, e, (node_rules st u id r a b).known)

  pub sees_views : {v : ℕ} {w : View} → v < variables → Sees st.nodes v id w → Views st u v id w
  sees_views {v} {w} hv s = ⊎_elim end (λ a. node a (ℕ_discrete (var_at st.nodes (ref id - 1)) v)) (laws.lt_or_le id 2)
    where
      end : id < 2 → Views st u v id w
      end l =
          let k = s.other (λ a e. omega arith) in
          record {
            inside = record { some = omega arith; most = omega arith; within = λ h. absurd (omega arith) };
            edges = seen_one st.children st.cuts v w k ∙ (ap last (child_seen_own st.children w 0 k ∙ s.same_id) ∙ sym (edge_other (held st u) v id (λ q. omega (arith, end_later (held st u) v id l hv))));
          }

      node : 2 ≤ id → Dec (var_at st.nodes (ref id - 1) ≡ v) → Views st u v id w
      node a (yes e) = views_own st u id r a b v w e s.same_id (s.own a e).0 (s.own a e).1
      node a (no n) = views_other st u id r a b v w n s.same_id (s.other (λ _ e. n e))

-- The earlier of two variables.
pub first_variable_is : {st : Store} {u : ℕ} → Readable st u → (x y : ℕ) {v : ℕ} → 2 ≤ x → KnownTo u x → 2 ≤ y → KnownTo u y → v ≡ min (var_at st.nodes (ref x - 1)) (var_at st.nodes (ref y - 1))
    → (v ≡ min (at (held st u) (ref x)).var (at (held st u) (ref y)).var) × (v < variables)
first_variable_is {st} {u} r x y a k b l e =
    let p : var_at st.nodes (ref x - 1) ≡ (at (held st u) (ref x)).var = variable_is r x k a refl in
    let q : var_at st.nodes (ref y - 1) ≡ (at (held st u) (ref y)).var = variable_is r y l b refl in
    let p' : var_at st.nodes (ref x - 1) < variables = variable_known r x k a refl in
    (e ∙ (λ i. min (p i) (q i)), omega arith)
