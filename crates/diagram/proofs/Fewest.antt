-- An id of a sound table beside an id of any ordered diagram that says the same: each node that the first reaches has a partner that
-- the second reaches, with as many edges or more, and no two have the same partner. Assumes nothing.
use mathlib.Core.Path.{◌≡◌, refl, sym, ◌∙◌, ap}
use mathlib.Core.Bool.{true, not}
use mathlib.Core.List.{List, Memᴰ}
use Prim.Native.Nat.{ℕ, zero, suc, ◌+◌, ◌≤◌, ◌<◌}
use native.Mathlib.Omega.{arith}
use native.Mathlib.Decide.{ℕ_discrete, dec_lt}
use lib.ListN.{length}
use Rattle.ids.specs.Id.{sign, ref, flip, under}
use Rattle.ids.proofs.Signs.{ref_under, ref_flip}
use Rattle.diagram.specs.Pieces.{Pieces, select}
use Rattle.diagram.specs.Shape.{count}
use Rattle.diagram.specs.Table.{variables, top_of, Node, Table, at, Assignment, value}
use Rattle.diagram.specs.Cofactor.{edges_of, upd, Within}
use Rattle.diagram.specs.Sound.{Known, Child, Sound}
use Rattle.diagram.specs.Room.{width}
use Rattle.diagram.specs.Ordered.{Run, Diagram, holds, Ordered, Path, here, via, Reached, edges, diagram_of}
use Rattle.diagram.proofs.Lookup.{value_flip}
use Rattle.diagram.proofs.Piecewise.{reduced_rising, two_told_apart}
use Rattle.diagram.proofs.Facts.{facts_at, value_agree}
use Rattle.diagram.proofs.Cofactors.{edges_are_kids, edge_child, value_edge, select_own, count_own, upd_later, upd_within}
use Rattle.diagram.proofs.Apart.{same_value_same_id}
use Rattle.diagram.proofs.Counting.{Partner, sum_partners_le, sum_one, sum_edges}
use Rattle.diagram.proofs.Runs.{child_at, Piece, run_piece, no_fewer}
use Rattle.diagram.proofs.Diagrams.{var_of, Later, tells, path_trans, path_inside, held_at, child_run, kid, kid_later, kid_path, tells_agree, tells_under, tells_kid, width_runs, sound_ordered}

-- a ref with a variable of the order is a node's
pub is_vertex : (d : Diagram) (r : ℕ) → var_of d r < variables → 0 < r
is_vertex d zero h = absurd (omega arith)
is_vertex d (suc r) h = omega arith

module _ (t : Table) (z : Sound t) (d : Diagram) (o : Ordered d) where
  -- an id of the table and one of the diagram say the same
  abbrev pub Same : ℕ → ℕ → Type 0
  Same a c = (α : Assignment) → Within α → value t α a ≡ tells d α c

  abbrev pub var : ℕ → ℕ
  var a = (at t (ref a)).var

  -- a node's id
  pub record IsNode (a : ℕ) : Type 0 where
    pub some : 0 < ref a
    pub inside : Known t a

  module _ (a : ℕ) (na : IsNode a) where
    abbrev e : Pieces ℕ
    e = edges_of t (var a) a

    var_known : var a < variables
    var_known = (facts_at t z (ref a) na.some na.inside).known

    own : Child t (var a) a
    own = (na.inside, omega arith)

    many : 2 ≤ count e
    many = rw (count_own t (var a) a refl) (facts_at t z (ref a) na.some na.inside).many

    child : (p : ℕ) → Child t (suc (var a)) (select e p)
    child p = edge_child t z (var a) a var_known own p

    at_child : (α : Assignment) (p : ℕ) → value t (upd α (var a) p) a ≡ value t α (select e p)
    at_child α p = value_edge t z (var a) a var_known own α p

    -- children at a position of the common variable say the same
    kid_same : (c p : ℕ) → 0 < ref c → ref c ≤ d.size → var_of d (ref c) ≡ var a → p ≤ top_of (var a) → Same a c → Same (select e p) (kid d o c p)
    kid_same c p hc lc q tp s α w =
        sym (at_child α p) ∙ s (upd α (var a) p) (upd_within α (var a) p w tp) ∙ ap (λ (u : ℕ). tells d (upd α u p) c) (sym q)
        ∙ tells_kid d o c p hc lc (rw q tp) α w

    -- an id that says the same does not begin below the node's variable
    not_below : (c : ℕ) → ref c ≤ d.size → Same a c → var a < var_of d (ref c) → ⊥
    not_below c lc s h =
        let x = two_told_apart (top_of (var a)) e (edges_are_kids t z (var a) a var_known own).reduced many in
        x.apart (same_value_same_id t z (select e x.p) (select e x.q) (child x.p).0 (child x.q).0
        (λ α w. constant α w x.p x.p_top ∙ sym (constant α w x.q x.q_top)))
      where
        constant : (α : Assignment) → Within α → (p : ℕ) → p ≤ top_of (var a) → value t α (select e p) ≡ tells d α c
        constant α w p tp =
            sym (at_child α p) ∙ s (upd α (var a) p) (upd_within α (var a) p w tp) ∙ tells_agree d o (suc (var a)) (upd α (var a) p) α w (upd_later α (var a) p) c (lc, h)

  -- an id that says what a says, tests its variable, and lies on a path from c
  pub record Settled (a c : ℕ) : Type 0 where
    pub to : ℕ
    pub path : Path d (ref c) (ref to)
    pub inside : ref to ≤ d.size
    pub vars : var_of d (ref to) ≡ var a
    pub same : Same a to

  settle : (n a c : ℕ) → IsNode a → ref c ≤ d.size → variables ≤ n + var_of d (ref c) → Same a c → Settled a c
  settle zero a c na lc hn s = absurd (not_below a na c lc s (omega (arith, var_known a na)))
  settle (suc n) a c na lc hn s = go (dec_lt (var_of d (ref c)) (var a)) (dec_lt (var a) (var_of d (ref c))) (λ x. settle n a x na)
    where
      go : Dec (var_of d (ref c) < var a) → Dec (var a < var_of d (ref c)) → ((x : ℕ) → ref x ≤ d.size → variables ≤ n + var_of d (ref x) → Same a x → Settled a x) → Settled a c
      go (no x) (no y) rec = record { to = c; path = here; inside = lc; vars = omega arith; same = s }
      go (no x) (yes y) rec = absurd (not_below a na c lc s y)
      go (yes x) y rec = up (rec (kid d o c 0) k.0 (omega (arith, k.1)) same_kid)
        where
          u : ℕ
          u = var_of d (ref c)

          hc : 0 < ref c
          hc = is_vertex d (ref c) (omega (arith, var_known a na))

          k : Later d (suc u) (kid d o c 0)
          k = kid_later d o c 0 hc lc (omega arith)

          -- a does not test the earlier variable u
          same_kid : Same a (kid d o c 0)
          same_kid α w = sym (value_agree t z (var a) (upd α u 0) α (λ q h. upd_later α u 0 q (omega arith)) a (na.inside, omega arith))
              ∙ s (upd α u 0) (upd_within α u 0 w (omega arith)) ∙ tells_kid d o c 0 hc lc (omega arith) α w

          up : Settled a (kid d o c 0) → Settled a c
          up i = record { to = i.to; path = path_trans (kid_path d o c 0 hc lc (omega arith)) i.path; inside = i.inside; vars = i.vars; same = i.same }

  settled : (a c : ℕ) → IsNode a → ref c ≤ d.size → Same a c → Settled a c
  settled a c na lc s = settle variables a c na lc (omega arith) s

  -- for a ref s that a reaches: an id of it, and the partner that c reaches
  pub record Twin (c s : ℕ) : Type 0 where
    pub of : ℕ
    pub ref_is : ref of ≡ s
    pub partner : Settled of c

  pub reached_has_twin : {r s : ℕ} → Path (diagram_of t) r s → (a c : ℕ) → ref a ≡ r → 0 < s → Known t a → ref c ≤ d.size → Same a c → Twin c s
  reached_has_twin (here {r = r}) a c q hs la lc i = record { of = a; ref_is = q; partner = settled a c (record { some = omega arith; inside = la }) lc i }
  reached_has_twin (via {r = r} {s = s} x hr m y) a c q hs la lc i = down_one (reached_has_twin y (select (e a na) p) (kid d o b.to p) ref_kid hs (child a na p).0 (kid_later d o b.to p hb b.inside tb).0
      (kid_same a na b.to p hb b.inside b.vars tp b.same))
    where
      na : IsNode a
      na = record { some = omega arith; inside = la }

      b : Settled a c
      b = settled a c na lc i

      hb : 0 < ref b.to
      hb = is_vertex d (ref b.to) (omega (arith, b.vars, var_known a na))

      nd : Node
      nd = at t r

      var_is : var a ≡ nd.var
      var_is = ap (λ (r : ℕ). (at t r).var) q

      piece : Piece 0 (top_of nd.var) nd.edges x
      piece = run_piece 0 (top_of nd.var) nd.edges (reduced_rising 0 (top_of nd.var) nd.edges (facts_at t z r hr (omega arith)).reduced) x m

      p : ℕ
      p = x.from

      tp : p ≤ top_of (var a)
      tp = rw var_is (omega (arith, piece.rising, piece.high))

      tb : p ≤ top_of (var_of d (ref b.to))
      tb = rw b.vars tp

      ref_kid : ref (select (e a na) p) ≡ ref x.child
      ref_kid = ap ref (select_own t (var a) a refl p) ∙ ref_under (sign a) (select (at t (ref a)).edges p) ∙ ap (λ (r : ℕ). ref (select (at t r).edges p)) q ∙ ap ref piece.child_is

      down_one : Twin (kid d o b.to p) s → Twin c s
      down_one w = let k = w.partner in record {
        of = w.of;
        ref_is = w.ref_is;
        partner = record { to = k.to; inside = k.inside; vars = k.vars; same = k.same; path = path_trans b.path (path_trans (kid_path d o b.to p hb b.inside tb) k.path) };
      }

  -- refs of ids that say the same
  pub record Pair (s r : ℕ) : Type 0 where
    pub of : ℕ
    pub to : ℕ
    pub of_ref : ref of ≡ s
    pub to_ref : ref to ≡ r
    pub inside : Known t of
    pub same : Same of to

  -- no two refs have one partner
  pub pair_inj : (s u r : ℕ) → Pair s r → Pair u r → s ≡ u
  pair_inj s u r x y = go (ℕ_discrete x.to y.to)
    where
      go : Dec (x.to ≡ y.to) → s ≡ u
      go (yes q) = omega (arith, x.of_ref, y.of_ref, same_value_same_id t z x.of y.of x.inside y.inside (λ α w. x.same α w ∙ ap (tells d α) q ∙ sym (y.same α w)))
      go (no q) =
          let n : flip x.to ≡ y.to = omega (arith, x.to_ref, y.to_ref) in
          omega (
            arith,
            x.of_ref,
            y.of_ref,
            same_value_same_id t z (flip x.of) y.of (rw (ref_flip x.of) x.inside) y.inside
                (λ α w. value_flip t α x.of ∙ ap not (x.same α w) ∙ sym (tells_under d o α 1 x.to) ∙ ap (tells d α) n ∙ sym (y.same α w)),
          )

  -- a node has no more edges than its partner
  pub width_le_partner : (a c : ℕ) → IsNode a → (y : Settled a c) → width t (ref a) ≤ length (d.runs (ref y.to))
  width_le_partner a c na y = rw (count_own t (var a) a refl) at
      (no_fewer 0 (top_of (var a)) (e a na) (edges_are_kids t z (var a) a (var_known a na) (own a na)).reduced (d.runs (ref y.to)) (λ p h l. held_at d o (ref y.to) p hy y.inside (rw y.vars l)) one)
    where
      hy : 0 < ref y.to
      hy = is_vertex d (ref y.to) (omega (arith, y.vars, var_known a na))

      one : (x : Run) → Memᴰ x (d.runs (ref y.to)) → (p q : ℕ) → holds x p ≡ true → holds x q ≡ true → 0 ≤ p → p ≤ top_of (var a) → 0 ≤ q → q ≤ top_of (var a) → select (e a na) p ≡ select (e a na) q
      one x m p q xp xq _ lp _ lq =
          let u = sign y.to in
          let g : child_at (d.runs (ref y.to)) p ≡ child_at (d.runs (ref y.to)) q
          = child_run d o (ref y.to) p hy y.inside (rw y.vars lp) x m xp ∙ sym (child_run d o (ref y.to) q hy y.inside (rw y.vars lq) x m xq) in
          same_value_same_id t z (select (e a na) p) (select (e a na) q) (child a na p).0 (child a na q).0
          (λ α w. kid_same a na y.to p hy y.inside y.vars lp y.same α w ∙ ap (λ (n : ℕ). tells d α (under u n)) g ∙ sym (kid_same a na y.to q hy y.inside y.vars lq y.same α w))

  module _ (a c : ℕ) (la : Known t a) (lc : ref c ≤ d.size) (i : Same a c) (rs ss : List ℕ) (ra : Reached (diagram_of t) a rs) (rc : Reached d c ss) where
    partner : (s : ℕ) → Memᴰ s rs → (w w' : ℕ → ℕ) → ((x : ℕ) (k : Settled x c) → IsNode x → w (ref x) ≤ w' (ref k.to)) → Partner w w' Pair ss s
    partner s m w w' h =
        let j = (ra.each s).0 m in
        let x = reached_has_twin j.1 a c refl j.0 la lc i in
        let k = x.partner in
        let nx : IsNode x.of = record { some = omega (arith, x.ref_is, j.0); inside = omega (arith, x.ref_is, path_inside (diagram_of t) (sound_ordered t z) j.1 la) } in
        let hk = is_vertex d (ref k.to) (omega (arith, k.vars, var_known x.of nx)) in
        record {
          to = ref k.to;
          there = (rc.each (ref k.to)).1 (hk, k.path);
          pair = record { of = x.of; to = k.to; of_ref = x.ref_is; to_ref = refl; inside = nx.inside; same = k.same };
          lighter = rw x.ref_is at (h x.of k nx);
        }

    pub fewest : (length rs ≤ length ss) × (edges (diagram_of t) rs ≤ edges d ss)
    fewest = (
      rw (sum_one rs, sum_one ss) at (sum_partners_le (λ x. 1) (λ x. 1) Pair pair_inj rs ra.once ss (λ s m. partner s m (λ x. 1) (λ x. 1) (λ x k n. omega arith))),
      rw (sum_edges (diagram_of t) rs, sum_edges d ss) at
          (sum_partners_le (λ r. length ((diagram_of t).runs r)) (λ r. length (d.runs r)) Pair pair_inj rs ra.once ss
          (λ s m. partner s m (λ r. length ((diagram_of t).runs r)) (λ r. length (d.runs r)) (λ x k n. rw (width_runs t (ref x)) (width_le_partner x c n k)))),
    )
