-- Node making: the answer says what the edges say. Assumes nothing.
use mathlib.Core.Path.{◌≡◌, refl, sym, ◌∙◌, ap}
use mathlib.Core.Bool.{Bool, true, false, cond, ◌&&◌, and-eq-true_iff, true≢false, false≢true}
use mathlib.Core.List.{[], ◌∷◌}
use Prim.Native.Nat.{ℕ, zero, suc, ◌+◌, ◌*◌, ◌≤◌, ◌<◌}
use native.Mathlib.Omega.{arith}
use native.Mathlib.Decide.{ℕ_discrete}
use lib.Dec.{eqb}
use lib.ListN.{length}
use borrow.Author.Tests.{eqb-true, eq-eqb}
use Rattle.ids.specs.Id.{sign, ref, under}
use Rattle.ids.proofs.Signs.{under_inj, ref_under, sign_under}
use Rattle.diagram.specs.Pieces.{Pieces, last, cut, select}
use Rattle.diagram.specs.Shape.{first, Each, Rising, Reduced}
use Rattle.diagram.specs.Table.{variables, top_of, Node, Table, at, Assignment, flipped, value, same, more}
use Rattle.diagram.specs.Cofactor.{map}
use Rattle.diagram.specs.Sound.{Child, Extends, Sound}
use Rattle.diagram.proofs.Lookup.{truth, at_new, at_old, at_end, truth_new, value_under, value_ref, flipped_flipped}
use Rattle.diagram.proofs.Piecewise.{count_pos}
use Rattle.diagram.proofs.Facts.{facts_at}
use Rattle.diagram.proofs.Cofactors.{select_map, reduced_map, each_map, child_under}
use Rattle.algebra.specs.Overlay.{merge}
use Rattle.algebra.specs.Making.{same_edges, same_node, find, intern, first_sign, settle, create_node}
use Rattle.algebra.proofs.Overlays.{reduced_merge, select_merge, each_merge}
use Rattle.algebra.proofs.Made.{Reach, stay, go_by, Made, unchanged, made_same_meaning}

-- the test of nodes
same_edges_lem : (e f : Pieces ℕ) → same_edges e f ≡ true → e ≡ f
same_edges_lem (last c) (last d) h = ap last (eqb-true c d h)
same_edges_lem (last c) (cut d l f) h = absurd (false≢true h)
same_edges_lem (cut c k e) (last d) h = absurd (false≢true h)
same_edges_lem (cut c k e) (cut d l f) h =
    let x = (and-eq-true_iff (eqb c d) (eqb k l && same_edges e f)).0 h in
    let y = (and-eq-true_iff (eqb k l) (same_edges e f)).0 x.1 in
    let p = eqb-true c d x.0 in
    let q = eqb-true k l y.0 in
    let r = same_edges_lem e f y.1 in
    λ i. cut (p i) (q i) (r i)

edges_same : (e : Pieces ℕ) → same_edges e e ≡ true
edges_same (last c) = eq-eqb c c refl
edges_same (cut c k e) = rw (eq-eqb c c refl, eq-eqb k k refl) (edges_same e)

pub same_node_lem : (m n : Node) → same_node m n ≡ true → m ≡ n
same_node_lem m n h =
    let x = (and-eq-true_iff (eqb m.var n.var) (same_edges m.edges n.edges)).0 h in
    let p = eqb-true m.var n.var x.0 in
    let q = same_edges_lem m.edges n.edges x.1 in
    λ i. record { var = p i; edges = q i }

pub node_same : (m n : Node) → m ≡ n → same_node m n ≡ true
node_same m n e = rw (← e) (rw (eq-eqb m.var m.var refl) (edges_same m.edges))

-- what find answers
pub record Found (t : Table) (nd : Node) (r : ℕ) : Type 0 where
  pub inside : r ≤ length t
  pub there : 0 < r → at t r ≡ nd
  pub absent : r ≡ 0 → (s : ℕ) → 0 < s → s ≤ length t → at t s ≡ nd → ⊥

pub find_found : (t : Table) (nd : Node) → Found t nd (find t nd)
unfolding find
find_found [] nd = record { inside = omega arith; there = λ h. absurd (omega arith); absent = λ z s p h. absurd (omega arith) }
find_found (x ∷ t) nd = go (same_node x nd) refl (find_found t nd)
  where
    go : (b : Bool) → same_node x nd ≡ b → Found t nd (find t nd) → Found (x ∷ t) nd (cond b (suc (length t)) (find t nd))
    go true q i = record { inside = omega arith; there = λ h. at_new x t ∙ same_node_lem x nd q; absent = λ z. absurd (omega arith) }
    go false q i = record {
      inside = omega (arith, i.inside);
      there = λ h. at_old x t (find t nd) i.inside ∙ i.there h;
      absent = λ z s p h e. gone s p h e z (ℕ_discrete s (suc (length t)));
    }
      where
        gone : (s : ℕ) → 0 < s → s ≤ suc (length t) → at (x ∷ t) s ≡ nd → find t nd ≡ 0 → Dec (s ≡ suc (length t)) → ⊥
        gone s p h e z (yes y) = true≢false (sym (node_same x nd (sym (at_new x t) ∙ sym (ap (at (x ∷ t)) y) ∙ e)) ∙ q)
        gone s p h e z (no y) = i.absent z s p (omega arith) (sym (at_old x t s (omega arith)) ∙ e)

-- what a node over edges has made; each child is reached
pub record MadeNode (t : Table) (v : ℕ) (e : Pieces ℕ) (out : Table × ℕ) : Type 0 where
  pub made : Made t v (λ α. value t α (select e (α v))) out
  pub reach : (p : ℕ) → Reach out.0 (ref out.1) (ref (select e p))

-- the node of merged edges that begin with c, flipped by a sign under which c is plain
module _ (t : Table) (z : Sound t) (v : ℕ) (hv : v < variables) (sgn c k : ℕ) (e : Pieces ℕ) (red : Reduced 0 (top_of v) (cut c k e)) (kids : Each (Child t (suc v)) (cut c k e))
    (bit : sgn < 2) (plain : sign (under sgn c) ≡ 0) where
  abbrev node : Node
  node = record { var = v; edges = map (under sgn) (cut c k e) }

  extends : find t node ≡ 0 → Extends t node
  unfolding map
  extends n = record {
    known = hv;
    many = omega (arith, count_pos (map (under sgn) e));
    reduced = reduced_map (under sgn) (under_inj sgn) 0 (top_of v) (cut c k e) red;
    plain = plain;
    kids = each_map (under sgn) (Child t (suc v)) (Child t (suc v)) (child_under t (suc v) sgn) (cut c k e) kids;
    new = λ r h q. absent r h q;
  }
    where
      absent : (r : ℕ) → r ≤ length t → at t r ≡ node → ⊥
      absent zero h q = omega (arith, ap (λ (m : Node). m.var) (sym q ∙ at_end t))
      absent (suc r) h q = (find_found t node).absent n (suc r) (omega arith) h q

  -- a ref whose truth is that of the node's selected child
  meaning : (t' : Table) (r : ℕ) (α : Assignment) → truth t' α r ≡ value t α (select node.edges (α v)) → value t' α (2 * r + sgn) ≡ value t α (select (cut c k e) (α v))
  meaning t' r α h =
      value_ref t' α r sgn bit ∙ ap (flipped sgn) (h ∙ ap (value t α) (select_map (under sgn) (cut c k e) (α v)) ∙ value_under t α sgn (select (cut c k e) (α v)))
      ∙ flipped_flipped sgn (value t α (select (cut c k e) (α v)))

  -- a ref of the node reaches each child
  reaching : (t' : Table) (i r : ℕ) → ref i ≡ suc r → at t' (suc r) ≡ node → (p : ℕ) → Reach t' (ref i) (ref (select (cut c k e) p))
  reaching t' i r d a p = rw d (go_by {r = suc r} {s = ref (select (cut c k e) p)} p (omega arith) (rw (a, select_map (under sgn) (cut c k e) p, ref_under sgn (select (cut c k e) p)) stay))

  interned : MadeNode t v (cut c k e) (intern t node sgn)
  unfolding intern
  interned = go (find t node) refl
    where
      go : (r : ℕ) → find t node ≡ r → MadeNode t v (cut c k e) (elim r [ zero ↦ (node ∷ t, 2 * suc (length t) + sgn) | suc q ↦ (t, 2 * suc q + sgn) ])
      go zero q =
          let d : ref (2 * suc (length t) + sgn) ≡ suc (length t) = omega arith in
          record {
            made = record {
              sound = (extends q, z);
              continues = more node same;
              child = (omega arith, rw (d, at_new node t) (omega arith));
              means = λ α. meaning (node ∷ t) (suc (length t)) α (truth_new node t α);
              used = λ r h l. let f : ref (2 * suc (length t) + sgn) ≡ r = omega arith in rw f stay;
            };
            reach = reaching (node ∷ t) (2 * suc (length t) + sgn) (length t) d (at_new node t);
          }
      go (suc r) q =
          let f = find_found t node in
          let d : ref (2 * suc r + sgn) ≡ suc r = omega arith in
          let i : suc r ≤ length t = rw q at f.inside in
          let a : at t (suc r) ≡ node = rw q at (f.there (omega arith)) in
          record {
            made = unchanged t z v (2 * suc r + sgn) (omega arith, rw (d, a) (omega arith)) (λ α. value t α (select (cut c k e) (α v)))
                (λ α. meaning t (suc r) α (rw a at ((facts_at t z (suc r) (omega arith) i).truth_is α)));
            reach = reaching t (2 * suc r + sgn) r d a;
          }

-- under the sign of the first child that child is plain
first_bit : (e : Pieces ℕ) → first_sign e < 2
unfolding first_sign
first_bit e = omega arith

first_plain : (e : Pieces ℕ) → sign (under (first_sign e) (first e)) ≡ 0
unfolding first_sign
first_plain e = sign_under (first e) (sign (first e)) refl

settled : (t : Table) → Sound t → (v : ℕ) → v < variables → (e : Pieces ℕ) → Reduced 0 (top_of v) e → Each (Child t (suc v)) e → MadeNode t v e (settle t v e)
unfolding settle
settled t z v hv (last c) red k = record { made = unchanged t z v c (k.0, omega arith) (λ α. value t α c) (λ α. refl); reach = λ p. stay }
settled t z v hv (cut c k e) red kids = interned t z v hv (first_sign (cut c k e)) c k e red kids (first_bit (cut c k e)) (first_plain (cut c k e))

-- node making from any edges whose cuts rise
pub created : (t : Table) → Sound t → (v : ℕ) → v < variables → (e : Pieces ℕ) → Rising 0 (top_of v) e → Each (Child t (suc v)) e → MadeNode t v e (create_node t v e)
created t z v hv e rise kids =
    let x = settled t z v hv (merge e) (reduced_merge 0 (top_of v) e rise) (each_merge (Child t (suc v)) e kids) in
    record {
      made = made_same_meaning x.made (λ α. ap (value t α) (select_merge 0 (top_of v) e rise (α v)));
      reach = λ p. rw (select_merge 0 (top_of v) e rise p) at (x.reach p);
    }
