-- Room: a sound table that continues the given one and holds the answer is no smaller than the one that was made; so "no room" is
-- exact, and a table that holds the answer already gets nothing added. Assumes nothing.
use mathlib.Core.Path.{◌≡◌, refl, sym, ◌∙◌, ap}
use mathlib.Core.Bool.{Bool}
use mathlib.Core.List.{[], ◌∷◌, Memᴰ}
use mathlib.Core.Logic.{◌↔◌}
use Prim.Native.Nat.{ℕ, zero, suc, ◌*◌, ◌≤◌, ◌<◌}
use native.Mathlib.Omega.{arith}
use native.Mathlib.Decide.{dec_lt}
use lib.ListN.{length}
use Rattle.ids.specs.Id.{ref}
use Rattle.diagram.specs.Shape.{count}
use Rattle.diagram.specs.Table.{Node, Table, value, Continues, same}
use Rattle.diagram.specs.Sound.{Known, Sound}
use Rattle.diagram.specs.Reading.{Reading, positions, says}
use Rattle.diagram.specs.Room.{width, edge_total, Fits}
use Rattle.diagram.specs.Ordered.{Ordered, diagram_of}
use Rattle.diagram.proofs.Lookup.{at_new, at_old}
use Rattle.diagram.proofs.Facts.{facts_at}
use Rattle.diagram.proofs.Continuing.{continues_length, continues_at, continues_value, continues_same}
use Rattle.diagram.proofs.Counting.{down, sum, once_down, mem_down, down_mem, Partner, sum_partners_le, sum_down}
use Rattle.diagram.proofs.Diagrams.{width_runs, sound_ordered, tells_value}
use Rattle.diagram.proofs.Fewest.{is_vertex, IsNode, reached_has_twin, Pair, pair_inj, width_le_partner}
use Rattle.diagram.proofs.Apart.{same_value_same_id}
use Rattle.diagram.proofs.Readings.{readings_cover_assignments}
use Rattle.algebra.specs.Answering.{Answers, Answerable}

-- at least the nodes and the edges of another table, and for each of its nodes one at least as wide.
pub record AtLeast (t s : Table) : Type 0 where
  pub nodes : length t ≤ length s
  pub edges : edge_total t ≤ edge_total s
  pub widths : (r : ℕ) → 0 < r → r ≤ length t → (q : ℕ) × (0 < q) × (q ≤ length s) × (width t r ≤ width s q)

-- the edges of all nodes, as a sum over refs
sum_same : (w w' : ℕ → ℕ) (n : ℕ) → ((r : ℕ) → r ≤ n → w r ≡ w' r) → sum w (down n) ≡ sum w' (down n)
sum_same w w' zero h = refl
sum_same w w' (suc n) h = omega (arith, h (suc n) (omega arith), sum_same w w' n (λ r l. h r (omega arith)))

edges_sum : (t : Table) → sum (width t) (down (length t)) ≡ edge_total t
edges_sum [] = refl
edges_sum (nd ∷ t) =
    omega (
      arith,
      ap (λ (n : Node). count n.edges) (at_new nd t),
      edges_sum t,
      sum_same (width (nd ∷ t)) (width t) (length t) (λ r l. ap (λ (n : Node). count n.edges) (at_old nd t r l)),
    )

module _ (t : Table) (m : Reading → Bool) (out : Table × ℕ) (x : Answers t m out) (s : Table) (zs : Sound s) (g : Continues t s) (i : ℕ) (hi : Known s i)
    (h : (ρ : Reading) → says s ρ i ≡ m ρ) where
  abbrev t' : Table
  t' = out.0

  abbrev z : Sound t'
  z = x.right.sound

  abbrev os : Ordered (diagram_of s)
  os = sound_ordered s zs

  abbrev Pairs : ℕ → ℕ → Type 0
  Pairs = Pair t' z (diagram_of s) os

  -- a node of s that stands for a node of the result, and is no narrower
  record Match (r : ℕ) : Type 0 where
    to : ℕ
    some : 0 < to
    inside : to ≤ length s
    pair : Pairs r to
    wide : width t' r ≤ width s to

  -- an older node: itself
  old : (r : ℕ) → 0 < r → r ≤ length t → Match r
  old r p l =
      let d : ref (2 * r) ≡ r = omega arith in
      let k : Known t (2 * r) = omega arith in
      let ks : Known s (2 * r) = omega (arith, continues_length g) in
      record {
        to = r;
        some = p;
        inside = omega (arith, continues_length g);
        pair = record {
          of = 2 * r;
          to = 2 * r;
          of_ref = d;
          to_ref = d;
          inside = omega (arith, continues_length x.right.continues);
          same = λ α w. continues_value x.right.continues α (2 * r) k ∙ sym (continues_value g α (2 * r) k) ∙ sym (tells_value s zs α w (2 * r) ks);
        };
        wide = rw (continues_at x.right.continues r l, continues_at g r l) (omega arith);
      }

  -- an added one: the answer reaches it, and the other table's answer reaches its partner
  new : (r : ℕ) → length t < r → r ≤ length t' → Match r
  new r p l =
      let w = reached_has_twin t' z (diagram_of s) os (x.reached r p l) out.1 i refl (omega arith) x.right.known hi
      (λ α q. readings_cover_assignments (λ β. value t' β out.1 ≡ value s β i) (λ ρ. x.right.means ρ ∙ sym (h ρ)) α q ∙ sym (tells_value s zs α q i hi)) in
      let k = w.partner in
      let nx : IsNode t' z (diagram_of s) os w.of = record { some = omega (arith, w.ref_is); inside = omega (arith, w.ref_is) } in
      let hk = is_vertex (diagram_of s) (ref k.to) (omega (arith, k.vars, (facts_at t' z (ref w.of) nx.some nx.inside).known)) in
      record {
        to = ref k.to;
        some = hk;
        inside = k.inside;
        pair = record { of = w.of; to = k.to; of_ref = w.ref_is; to_ref = refl; inside = nx.inside; same = k.same };
        wide = rw (w.ref_is, width_runs s (ref k.to)) at (width_le_partner t' z (diagram_of s) os w.of i nx k);
      }

  match : (r : ℕ) → 0 < r → r ≤ length t' → Match r
  match r p l = go (dec_lt (length t) r)
    where
      go : Dec (length t < r) → Match r
      go (yes q) = new r q l
      go (no q) = old r p (omega arith)

  partner : (w w' : ℕ → ℕ) → ((r : ℕ) (k : Match r) → w r ≤ w' k.to) → (r : ℕ) → Memᴰ r (down (length t')) → Partner w w' Pairs (down (length s)) r
  partner w w' f r n =
      let j = down_mem (length t') r n in
      let k = match r j.0 j.1 in
      record { to = k.to; there = mem_down (length s) k.to k.some k.inside; pair = k.pair; lighter = f r k }

  weighed : (w w' : ℕ → ℕ) → ((r : ℕ) (k : Match r) → w r ≤ w' k.to) → sum w (down (length t')) ≤ sum w' (down (length s))
  weighed w w' f = sum_partners_le w w' Pairs (pair_inj t' z (diagram_of s) os) (down (length t')) (once_down (length t')) (down (length s)) (partner w w' f)

  pub no_smaller : AtLeast out.0 s
  no_smaller = record {
    nodes = rw (sum_down (length t'), sum_down (length s)) at (weighed (λ y. 1) (λ y. 1) (λ r k. omega arith));
    edges = rw (edges_sum t', edges_sum s) at (weighed (width t') (width s) (λ r k. k.wide));
    widths = λ r p l. let k = match r p l in (k.to, k.some, k.inside, k.wide);
  }

-- what fits in a room fits for every smaller table
fits_less : (nodes edges : ℕ) (t s : Table) → AtLeast t s → Fits nodes edges s → Fits nodes edges t
fits_less nodes edges t s a f = record {
  nodes_fit = omega (arith, a.nodes, f.nodes_fit);
  edges_fit = omega (arith, a.edges, f.edges_fit);
  widths_fit = λ r p l. let k = a.widths r p l in omega (arith, k.3, f.widths_fit k.0 k.1 k.2);
}

-- an answer fits a room exactly when the operation's own result does
pub room_exact : (t : Table) (m : Reading → Bool) (out : Table × ℕ) → Answers t m out → (nodes edges : ℕ) → Answerable nodes edges t m ↔ Fits nodes edges out.0
room_exact t m out x nodes edges = (
  λ a. fits_less nodes edges out.0 a.out.0 (no_smaller t m out x a.out.0 a.right.sound a.right.continues a.out.1 a.right.known a.right.means) a.fits,
  λ f. record { out = out; right = x.right; fits = f },
)

-- and a table that holds the answer already stays as it is
pub answer_held : (t : Table) → Sound t → (m : Reading → Bool) (out : Table × ℕ) → Answers t m out → (c : ℕ) → Known t c → ((ρ : Reading) → says t ρ c ≡ m ρ) → out ≡ (t, c)
answer_held t z m out x c k h =
    let p = continues_same x.right.continues (no_smaller t m out x t z same c k h).nodes in
    let q = same_value_same_id out.0 x.right.sound out.1 c x.right.known (omega (arith, continues_length x.right.continues))
    (readings_cover_assignments (λ α. value out.0 α out.1 ≡ value out.0 α c) (λ ρ. x.right.means ρ ∙ sym (h ρ) ∙ sym (continues_value x.right.continues (positions ρ) c k))) in
    λ n. (p n, q n)
