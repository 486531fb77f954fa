-- FALSE put after gathered edges. Assumes nothing.
use mathlib.Core.Path.{◌≡◌, refl, sym, ◌∙◌, ap, subst}
use mathlib.Core.Bool.{true, false}
use Prim.Native.Nat.{ℕ, zero, suc, ◌+◌, ◌-◌, ◌≤◌, ◌<◌}
use native.Mathlib.Omega.{arith}
use Rattle.ids.specs.Id.{FALSE}
use Rattle.diagram.specs.Pieces.{Pieces, last, cut}
use Rattle.diagram.specs.Shape.{count, run}
use Rattle.diagram.specs.Table.{most_edges}
use Rattle.algebra.specs.Overlay.{merge}
use Rattle.table.proofs.Laws.{not_false_and_true}
use Rattle.merging.proofs.Gluing.{glued, Glue, run_is_merge, glued_below_count}
use Rattle.making.specs.declared.edges.Edge.{Edge}
use Rattle.making.specs.declared.edges.Edges as built
use Rattle.making.specs.Building.{child_in, cut_in}
use Rattle.making.proofs.Slots.{stored, stored_size, SlotFor, stored_is_put, slot_new}
use Rattle.clipping.specs.Clipping.{Clip, Clips, Gathered, leading}

-- of the edges that are wanted only their merge counts
pub clips_same : {want other : Pieces ℕ} {r : Clip} → merge want ≡ merge other → Clips want r → Clips other r
clips_same e x = record { built = λ q. ((x.built q).0, (x.built q).1 ∙ e); over = λ q. omega (arith, x.over q, ap count e) }

-- too many edges
pub clips_over : {want : Pieces ℕ} {out : built.Edges} → most_edges < count (merge want) → Clips want (record { ok = false; edges = out })
clips_over h = record { built = λ q. absurd (not_false_and_true refl q); over = λ q. h }

-- some edges before a rest, merged
pub merge_leading : (c k : ℕ → ℕ) (n : ℕ) (r : Pieces ℕ) → merge (leading c k n r) ≡ glued c k n (merge r)
unfolding leading glued merge
merge_leading c k zero r = refl
merge_leading c k (suc n) r = merge_leading c k n (cut (c n) (k n) r)

module _ {out : built.Edges} {len final : ℕ} (g : Gathered out len final) where
  -- the gathered edges, and FALSE
  abbrev wanted : Pieces ℕ
  wanted = leading (child_in out) (cut_in out) len (last FALSE)

  -- the gathered edges are put, and FALSE is left
  glue_gathered : Glue (child_in out) (cut_in out) len wanted (last FALSE)
  glue_gathered = record { equal = sym (merge_leading (child_in out) (cut_in out) len (last FALSE)); apart = g.apart }

  -- s is the slot for an edge to d, which is FALSE
  module _ {d s : ℕ} (slot : SlotFor len final d s) (outside : d ≡ FALSE) where
    abbrev sf : SlotFor len final FALSE s
    sf = subst (λ (x : ℕ). SlotFor len final x s) outside slot

    -- there is no slot for it
    pub closed_over : {r : built.Edges} → most_edges ≤ s → Clips wanted (record { ok = false; edges = r })
    closed_over h =
        let n = slot_new out g.size len final FALSE s (λ p. g.last_is) sf (omega (arith, g.most)) in
        clips_over (omega (arith, n.0, glued_below_count (child_in out) (cut_in out) len wanted (last FALSE) glue_gathered n.1))

    -- it stands in its slot
    pub closed_in : (e : Edge) → e.child.0 ≡ d → s < most_edges → Clips wanted (record { ok = true; edges = record { list = (stored out s e).list; len = s + 1 } })
    closed_in e q h = record {
      built = λ _. (
        record { size = stored_size out s e g.size; some = omega arith; most = omega arith },
        (let z : s + 1 - 1 ≡ s = omega arith in ap (run (child_in (stored out s e)) (cut_in (stored out s e)) 0) z)
            ∙ run_is_merge (child_in out) (cut_in out) (child_in (stored out s e)) (cut_in (stored out s e)) len s FALSE wanted glue_gathered (stored_is_put out g.size len final FALSE s (λ p. g.last_is) sf e (q ∙ outside) h),
      );
      over = λ w. absurd (not_false_and_true w refl);
    }
