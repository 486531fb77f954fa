-- Neighbours merged in place: the first slots hold merged edges, and those that are not yet read the old ones. Assumes nothing.
use mathlib.Core.Path.{◌≡◌, refl, sym, ◌∙◌, ap, ap₂, subst}
use Prim.Native.Nat.{ℕ, suc, ◌+◌, ◌-◌, ◌≤◌, ◌<◌}
use native.Mathlib.Omega.{arith}
use native.Mathlib.Numerals.{add-one}
use lib.ListN.{length}
use Rattle.ids.specs.declared.NodeId.{NodeId}
use Rattle.diagram.specs.Pieces.{Pieces, last, cut}
use Rattle.diagram.specs.Shape.{run}
use Rattle.diagram.specs.Table.{most_edges}
use Rattle.algebra.specs.Overlay.{merge}
use Rattle.merging.proofs.Gluing.{Glue, Put, glue_none, glue_step, run_is_merge}
use Rattle.making.specs.declared.edges.Edge.{Edge}
use Rattle.making.specs.declared.edges.Edges as built
use Rattle.making.specs.Building.{Building, child_in, cut_in, pieces_of}
use Rattle.making.proofs.Slots.{stored, stored_size, stored_other, stored_child, stored_cut_lem, SlotFor, stored_is_put, slot_most}

module _ (es : built.Edges) where
  -- the edges from edge j on: its edge alone where that is the last, else its edge and those after it
  abbrev rest : ℕ → Pieces ℕ
  rest j = run (child_in es) (cut_in es) j (es.len - 1 - j)

  rest_last : (j : ℕ) → es.len ≡ j + 1 → rest j ≡ last (child_in es j)
  unfolding run
  rest_last j e = let a : es.len - 1 - j ≡ 0 = omega arith in ap (run (child_in es) (cut_in es) j) a

  rest_cut : (j : ℕ) → j + 1 < es.len → rest j ≡ cut (child_in es j) (cut_in es j) (rest (j + 1))
  unfolding run
  rest_cut j h =
      let a : es.len - 1 - j ≡ suc (es.len - 1 - (j + 1)) = omega arith in
      ap (run (child_in es) (cut_in es) j) a ∙ ap (λ (i : ℕ). cut (child_in es j) (cut_in es j) (run (child_in es) (cut_in es) i (es.len - 1 - (j + 1)))) (sym (add-one j))

  -- What the loop keeps: `len` edges are put, the last of them to the child `final`; edge j is the next, and no slot from there on is touched.
  pub record Merging (out : built.Edges) (final : NodeId) (len j : ℕ) : Type 0 where
    pub size : length out.list ≡ most_edges
    pub behind : len ≤ j
    pub within : j ≤ es.len
    pub last_is : 0 < len → final.0 ≡ child_in out (len - 1)
    pub ahead : (i : ℕ) → j ≤ i → (child_in out i ≡ child_in es i) × (cut_in out i ≡ cut_in es i)
    pub going : j < es.len → Glue (child_in out) (cut_in out) len (pieces_of es) (rest j)
    pub done : es.len ≤ j → (1 ≤ len) × (run (child_in out) (cut_in out) 0 (len - 1) ≡ merge (pieces_of es))

module _ {es : built.Edges} (w : Building es) where
  -- At the start nothing is put.
  pub merging_none : (final : NodeId) → Merging es es final 0 0
  merging_none final = record {
    size = w.size;
    behind = omega arith;
    within = omega arith;
    last_is = λ l. absurd (omega arith);
    ahead = λ i l. (refl, refl);
    going = λ l. let a : es.len - 1 ≡ es.len - 1 - 0 = omega arith in subst (Glue (child_in es) (cut_in es) 0 (pieces_of es)) (ap (run (child_in es) (cut_in es) 0) a) (glue_none (child_in es) (cut_in es) (pieces_of es));
    done = λ l. absurd (omega (arith, w.some));
  }

  module _ {out : built.Edges} {final : NodeId} {len j : ℕ} (x : Merging es out final len j) where
    -- edge j, e, goes into slot s
    module _ (on : j < es.len) (e : Edge) (kid : e.child.0 ≡ child_in out j) (end : e.cut ≡ cut_in out j) {s : ℕ} (sf : SlotFor len final.0 e.child.0 s) where
      -- no further than edge j, so that no edge is lost, and within the array
      read : s ≤ j
      read = omega (arith, slot_most sf, x.behind)

      fits : s < most_edges
      fits = omega (arith, read, w.most)

      -- children and cuts after it
      abbrev c : ℕ → ℕ
      c = child_in (stored out s e)

      abbrev k : ℕ → ℕ
      k = cut_in (stored out s e)

      -- edge j is still as it was
      own_kid : child_in es j ≡ e.child.0
      own_kid = sym (kid ∙ (x.ahead j (omega arith)).0)

      own_cut : cut_in es j ≡ e.cut
      own_cut = sym (end ∙ (x.ahead j (omega arith)).1)

      -- e stands in its slot, and either there are edges after it or all are put
      put_it : Put (child_in out) (cut_in out) c k len s e.child.0
      put_it = stored_is_put out x.size len final.0 e.child.0 s x.last_is sf e refl fits

      more : j + 1 < es.len → Glue c k (s + 1) (pieces_of es) (rest es (j + 1))
      more l = glue_step (child_in out) (cut_in out) c k len s e.child.0 e.cut (pieces_of es) (rest es (j + 1))
          (subst (Glue (child_in out) (cut_in out) len (pieces_of es)) (rest_cut es j l ∙ ap₂ (λ (b p : ℕ). cut b p (rest es (j + 1))) own_kid own_cut) (x.going on)) put_it (stored_cut_lem out s e x.size fits)

      all : es.len ≤ j + 1 → run c k 0 s ≡ merge (pieces_of es)
      all l = run_is_merge (child_in out) (cut_in out) c k len s e.child.0 (pieces_of es) (subst (Glue (child_in out) (cut_in out) len (pieces_of es)) (rest_last es j (omega arith) ∙ ap last own_kid) (x.going on)) put_it

      -- one turn of the loop
      pub merging_next : Merging es (stored out s e) e.child (s + 1) (j + 1)
      merging_next = record {
        size = stored_size out s e x.size;
        behind = omega (arith, read);
        within = omega arith;
        last_is = λ l. sym (stored_child out s e x.size fits) ∙ ap c (let a : s ≡ s + 1 - 1 = omega arith in a);
        ahead = λ i l. let o = stored_other out s e x.size i (λ q. omega (arith, read)) in let a = x.ahead i (omega arith) in (o.0 ∙ a.0, o.1 ∙ a.1);
        going = more;
        done = λ l. (omega arith, (let a : s + 1 - 1 ≡ s = omega arith in ap (run c k 0) a) ∙ all l);
      }

    -- All are put.
    pub merging_done : es.len ≤ j → Building (record { list = out.list; len = len }) × (pieces_of (record { list = out.list; len = len }) ≡ merge (pieces_of es))
    merging_done l = let d = x.done l in (record { size = x.size; some = d.0; most = omega (arith, x.behind, x.within, w.most) }, d.1)
