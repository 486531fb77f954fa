-- Edges of a view put into slots between FALSE and FALSE, as widening does. Assumes nothing.
use mathlib.Core.Path.{◌≡◌, refl, sym, ◌∙◌, ap, ap₂, subst}
use mathlib.Core.List.{List}
use mathlib.Core.Logic.{⊎_elim}
use Prim.Native.Nat.{ℕ, suc, ◌+◌, ◌-◌, ◌≤◌, ◌<◌, min}
use native.Mathlib.Omega.{arith}
use lib.ListN.{length}
use lib.IntN.{ℤ}
use Rattle.ids.specs.Id.{FALSE}
use Rattle.ids.specs.declared.NodeId.{NodeId}
use Rattle.ranges.specs.Line.{top}
use Rattle.diagram.specs.Pieces.{Pieces, last, cut}
use Rattle.diagram.specs.Shape.{first, count, Rising, run}
use Rattle.diagram.specs.Table.{first_boolean, top_of, most_edges}
use Rattle.diagram.proofs.Numbered.{first_run}
use Rattle.diagram.proofs.Readings.{range_top}
use Rattle.algebra.specs.Overlay.{above, merge}
use Rattle.algebra.specs.Changing.{widened}
use Rattle.table.proofs.Laws.{lt_or_le, not_false_and_true}
use Rattle.merging.proofs.Gluing.{Glue, Put, next, glue_none, glue_step, run_is_merge, glued_below_count, put_apart}
use Rattle.making.specs.declared.edges.Edge.{Edge}
use Rattle.making.specs.declared.edges.Edges as built
use Rattle.making.specs.Building.{child_in, cut_in}
use Rattle.making.proofs.Slots.{stored, stored_size, stored_child, stored_cut_lem, SlotFor, stored_is_put, slot_new}
use Rattle.views.specs.declared.View.{View}
use Rattle.views.specs.Seeing.{beyond, child_seen, cut_seen, seen}
use Rattle.views.proofs.Sights.{seen_last, seen_cut, seen_range}
use Rattle.clipping.specs.Clipping.{Clip, Clips, Gathered, Closes}
use Rattle.clipping.proofs.Zones.{closing, fronted, fronted_none, fronted_some, closing_inner, closing_over, closing_before, closing_top, first_closing, widened_zones}
use Rattle.clipping.proofs.Passing.{not_last}
use Rattle.clipping.proofs.Closing.{clips_same, merge_leading}

module _ (children : List ℕ) (cuts : List ℤ) (a : View) (lo hi : ℕ) where
  -- the edges inside the bounds from edge i on, and FALSE above them
  abbrev rest : ℕ → Pieces ℕ
  rest i = closing hi top (seen children cuts 0 a i)

  -- all edges that are wanted, not yet merged
  abbrev whole : Pieces ℕ
  whole = fronted lo (closing hi top (above lo (seen children cuts 0 a 0)))

  -- What the loop keeps: `len` edges are put, the last of them to the child `final`, and edge i is the next.
  pub record Widening (out : built.Edges) (len : ℕ) (final : NodeId) (i : ℕ) : Type 0 where
    pub size : length out.list ≡ most_edges
    pub most : len ≤ most_edges
    pub last_is : 0 < len → final.0 ≡ child_in out (len - 1)
    pub inside : i < a.count
    pub glue : Glue (child_in out) (cut_in out) len whole (rest i)

  -- All edges inside the bounds are put: FALSE is left, or nothing.
  pub record AllPut (out : built.Edges) (len : ℕ) (final : NodeId) : Type 0 where
    pub gathered : Gathered out len final.0
    pub shut : hi < top → Glue (child_in out) (cut_in out) len whole (last FALSE)
    pub full : top ≤ hi → run (child_in out) (cut_in out) 0 (len - 1) ≡ merge whole

  -- At the start: FALSE below the bounds, if anything is below them.
  pub widen_none : (out : built.Edges) → length out.list ≡ most_edges → {e : Edge} {f : NodeId} → e ≡ record { cut = lo; child = f; spare = 0 } → f.0 ≡ FALSE → (len : ℕ) → len ≡ min lo 1
      → (i : ℕ) → i < a.count → above lo (seen children cuts 0 a 0) ≡ seen children cuts 0 a i → Widening (record { list = (stored out 0 e).list; len = len }) len f i
  widen_none out size {e} {f} new outside len n i h z = record {
    size = stored_size out 0 e size;
    most = omega arith;
    last_is = λ l. sym (ap (λ (y : Edge). y.child.0) new) ∙ (sym (stored_child out 0 e size (omega arith)) ∙ ap c (let y : 0 ≡ len - 1 = omega arith in y));
    inside = h;
    glue = ⊎_elim below none (lt_or_le 0 lo);
  }
    where
      c : ℕ → ℕ
      c = child_in (stored out 0 e)

      k : ℕ → ℕ
      k = cut_in (stored out 0 e)

      none : lo ≤ 0 → Glue c k len whole (rest i)
      none l = let y : 0 ≡ len = omega arith in subst (λ (j : ℕ). Glue c k j whole (rest i)) y (subst (Glue c k 0 whole) (fronted_none lo _ (omega arith) ∙ ap (closing hi top) z) (glue_none c k whole))

      below : 0 < lo → Glue c k len whole (rest i)
      below l = let y : 1 ≡ len = omega arith in subst (λ (j : ℕ). Glue c k j whole (rest i)) y
          (glue_step c k c k 0 0 FALSE lo whole (rest i) (subst (Glue c k 0 whole) (fronted_some lo _ (λ q. omega arith) ∙ ap (λ (x : Pieces ℕ). cut FALSE lo (closing hi top x)) z) (glue_none c k whole))
          (record { slot = next (λ p. absurd (omega arith)); keeps = λ j p. absurd (omega arith); child = stored_child out 0 e size (omega arith) ∙ (ap (λ (y : Edge). y.child.0) new ∙ outside) }) (stored_cut_lem out 0 e size (omega arith) ∙ ap (λ (y : Edge). y.cut) new))

module _ {children : List ℕ} {cuts : List ℤ} {a : View} {lo hi : ℕ} {out : built.Edges} {len : ℕ} {final : NodeId} {i : ℕ} (x : Widening children cuts a lo hi out len final i) where
  -- one edge more, to the child d
  module _ {d : NodeId} (kid : d.0 ≡ child_seen children a i) {s : ℕ} (sf : SlotFor len final.0 d.0 s) where
    -- this edge is the first that is left
    first_rest : first (rest children cuts a lo hi i) ≡ d.0
    unfolding seen
    first_rest = first_closing hi top (seen children cuts 0 a i) ∙ (first_run (child_seen children a) (cut_seen cuts 0 a) i (a.count - 1 - i) ∙ sym kid)

    -- there is no slot for it
    pub widen_over : most_edges ≤ s → most_edges < count (merge (whole children cuts a lo hi))
    widen_over h =
        let n = slot_new out x.size len final.0 d.0 s x.last_is sf (omega (arith, x.most)) in
        omega (arith, n.0, glued_below_count (child_in out) (cut_in out) len (whole children cuts a lo hi) (rest children cuts a lo hi i) x.glue (λ p q. n.1 p (q ∙ first_rest)))

    module _ (small : hi ≤ top) (fits : s < most_edges) {k : ℕ} (real : i + 1 < a.count → k ≡ cut_seen cuts 0 a i) (end : a.count ≤ i + 1 → k ≡ beyond) {e : Edge} (new : e ≡ record { cut = min k (hi + 1); child = d; spare = 0 }) where
      abbrev more : built.Edges
      more = record { list = (stored out s e).list; len = s + 1 }

      -- it stands in its slot
      put_it : Put (child_in out) (cut_in out) (child_in (stored out s e)) (cut_in (stored out s e)) len s d.0
      put_it = stored_is_put out x.size len final.0 d.0 s x.last_is sf e (ap (λ (y : Edge). y.child.0) new) fits

      last_put : d.0 ≡ child_in (stored out s e) (s + 1 - 1)
      last_put = sym (stored_child out s e x.size fits ∙ ap (λ (y : Edge). y.child.0) new) ∙ ap (child_in (stored out s e)) (let y : s ≡ s + 1 - 1 = omega arith in y)

      -- and r is left after it
      step : (j : ℕ) (r : Pieces ℕ) → rest children cuts a lo hi i ≡ cut d.0 j r → min k (hi + 1) ≡ j → Glue (child_in (stored out s e)) (cut_in (stored out s e)) (s + 1) (whole children cuts a lo hi) r
      step j r z q = glue_step (child_in out) (cut_in out) (child_in (stored out s e)) (cut_in (stored out s e)) len s d.0 j (whole children cuts a lo hi) r (subst (Glue (child_in out) (cut_in out) len (whole children cuts a lo hi)) z x.glue) put_it (stored_cut_lem out s e x.size fits ∙ (ap (λ (y : Edge). y.cut) new ∙ q))

      -- It ends within the bounds, so that there is a next one: one turn of the loop.
      module _ (h : k ≤ hi) where
        after : i + 1 < a.count
        after = not_last i small end h

        rest_inner : rest children cuts a lo hi i ≡ cut d.0 k (rest children cuts a lo hi (i + 1))
        rest_inner = ap (closing hi top) (seen_cut children cuts 0 a i after)
            ∙ (closing_inner hi top (child_seen children a i) (cut_seen cuts 0 a i) (seen children cuts 0 a (i + 1)) (omega (arith, real after)) ∙ ap₂ (λ (b j : ℕ). cut b j (rest children cuts a lo hi (i + 1))) (sym kid) (sym (real after)))

        pub widen_next : Widening children cuts a lo hi more (s + 1) d (i + 1)
        widen_next = record {
          size = stored_size out s e x.size;
          most = omega arith;
          last_is = λ p. last_put;
          inside = after;
          glue = step k (rest children cuts a lo hi (i + 1)) rest_inner (omega arith);
        }

      -- It goes on to the upper bound or past it: all are put.
      module _ (h : hi < k) where
        rest_over : rest children cuts a lo hi i ≡ closing hi top (last d.0)
        rest_over = ⊎_elim
            (λ m. ap (closing hi top) (seen_cut children cuts 0 a i m) ∙ (closing_over hi top (child_seen children a i) (cut_seen cuts 0 a i) (seen children cuts 0 a (i + 1)) (omega (arith, real m)) ∙ ap (λ (b : ℕ). closing hi top (last b)) (sym kid)))
            (λ m. ap (closing hi top) (seen_last children cuts 0 a i (omega (arith, x.inside)) ∙ ap last (sym kid)))
            (lt_or_le (i + 1) a.count)

        pub widen_last : AllPut children cuts a lo hi more (s + 1) d
        widen_last = record {
          gathered = record {
            size = stored_size out s e x.size;
            some = omega arith;
            most = omega arith;
            last_is = last_put;
            apart = λ j p. put_apart (child_in out) (cut_in out) (child_in (stored out s e)) (cut_in (stored out s e)) len s d.0 (whole children cuts a lo hi) (rest children cuts a lo hi i) x.glue put_it j (omega arith);
          };
          shut = λ t. step (suc hi) (last FALSE) (rest_over ∙ closing_before hi top d.0 t) (omega arith);
          full = λ t. (let y : s + 1 - 1 ≡ s = omega arith in ap (run (child_in (stored out s e)) (cut_in (stored out s e)) 0) y)
              ∙ run_is_merge (child_in out) (cut_in out) (child_in (stored out s e)) (cut_in (stored out s e)) len s d.0 (whole children cuts a lo hi) (subst (Glue (child_in out) (cut_in out) len (whole children cuts a lo hi)) (rest_over ∙ closing_top hi top d.0 t) x.glue) put_it;
        }

-- All are put, and closed.
pub widen_closed : {children : List ℕ} {cuts : List ℤ} {a : View} {lo hi : ℕ} {out : built.Edges} {len : ℕ} {final : NodeId} → AllPut children cuts a lo hi out len final → (upto : ℕ) → upto ≡ hi + 1 → {r : Clip} → Closes out len upto r → Clips (whole children cuts a lo hi) r
widen_closed {children} {cuts} {a} {lo} {hi} {out} {len} d upto u q = ⊎_elim
    (λ t. clips_same (merge_leading (child_in out) (cut_in out) len (last FALSE) ∙ (d.shut t).equal) (q.shut (omega arith)))
    (λ t. subst (Clips (whole children cuts a lo hi)) (sym (q.whole (omega arith))) (record { built = λ _. (record { size = d.gathered.size; some = d.gathered.some; most = d.gathered.most }, d.full t); over = λ w. absurd (not_false_and_true w refl) }))
    (lt_or_le hi top)

-- What is wanted at a range variable.
pub widened_wanted : (children : List ℕ) (cuts : List ℤ) (a : View) (lo hi upper : ℕ) → hi ≡ upper → lo ≤ upper → upper ≤ top → {r : Clip} → Clips (whole children cuts a lo hi) r
    → (v : ℕ) → v < first_boolean → Rising 0 (top_of v) (seen children cuts v a 0) → Clips (widened lo upper (top_of v) (seen children cuts v a 0)) r
widened_wanted children cuts a lo hi upper z l h x v range rise =
    let t = range_top v range in
    let e = seen_range children cuts v a 0 range in
    clips_same (sym (ap₂ (λ (p : ℕ) (y : Pieces ℕ). merge (widened lo upper p y)) t e
    ∙ (widened_zones lo upper top (seen children cuts 0 a 0) l h (rw (t, e) at rise) ∙ ap (λ (p : ℕ). merge (whole children cuts a lo p)) (sym z)))) x
