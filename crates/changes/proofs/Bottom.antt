-- At the variable itself: what narrowing and widening make of the edges of an id there. Assumes nothing.
use mathlib.Core.Path.{◌≡◌, refl, sym, ◌∙◌, ap, subst}
use mathlib.Core.Bool.{Bool, true, false, cond}
use mathlib.Core.List.{List}
use Prim.Native.Nat.{ℕ, suc, ◌≤◌, ◌<◌}
use native.Mathlib.Omega.{arith}
use native.Mathlib.Decide.{ℕ_discrete}
use lib.Dec.{ltb}
use borrow.Author.Tests.{lt-ltb, le-ltb}
use Rattle.ids.specs.Id.{FALSE, ref, KnownTo}
use Rattle.ids.specs.declared.NodeId.{NodeId}
use Rattle.ranges.specs.Line.{top}
use Rattle.ranges.specs.declared.spans.Range.{Range}
use Rattle.diagram.specs.Pieces.{Pieces, last, cut}
use Rattle.diagram.specs.Shape.{count, Each, Rising, Reduced}
use Rattle.diagram.specs.Table.{first_boolean, top_of, Table, at}
use Rattle.diagram.specs.Cofactor.{edges_of}
use Rattle.diagram.specs.Sound.{Child}
use Rattle.diagram.proofs.Readings.{range_top}
use Rattle.diagram.proofs.Facts.{facts_at, is_node}
use Rattle.diagram.proofs.Cofactors.{Kids, edge_other, edges_are_kids, edges_rising, count_own}
use Rattle.algebra.specs.Overlay.{above}
use Rattle.algebra.specs.Making.{settle, create_node}
use Rattle.algebra.specs.Changing.{is_before, cut_above, emptied, narrowed, widened}
use Rattle.algebra.proofs.Overlays.{reduced_merge, each_merge}
use Rattle.algebra.proofs.Descending.{Changes, before_no}
use Rattle.algebra.proofs.Changed.{narrowed_changes, widened_changes}
use Rattle.merging.proofs.Bottoms.{create_last, narrowed_reduced, create_narrowed_settles}
use Rattle.merging.proofs.Fitting.{not_fits_too_wide}
use Rattle.table.proofs.Laws.{not_false_and_true}
use Rattle.making.specs.declared.edges.Edges as built
use Rattle.table.specs.declared.lent.Used.{Used}
use Rattle.making.specs.Made.{Made}
use Rattle.making.specs.Building.{Building, pieces_of}
use Rattle.making.specs.Outcome.{Lent, Outcome, Buildable, table_of}
use Rattle.making.proofs.Kept.{stays_refl}
use Rattle.views.specs.declared.View.{View}
use Rattle.views.specs.Seeing.{Views, seen}
use Rattle.views.proofs.Sights.{known_held, seen_count}
use Rattle.walks.proofs.Composing.{lent_sound}
use Rattle.clipping.specs.Clipping.{Clip}
use Rattle.clipping.specs.Clipping.{Clips}
use Rattle.changes.specs.Changed.{narrowing, widening}
use Rattle.table.specs.Layout.{Store}

-- one edge stays, whatever the range
narrowing_last : (r : Range) (c : ℕ) → narrowing r (last c) ≡ last c
unfolding above cut_above
narrowing_last r c = go (ltb r.last r.first)
  where
    go : (b : Bool) → cond b (last c) (last c) ≡ last c
    go true = refl
    go false = refl

-- of more than one edge an empty range leaves FALSE,
narrowing_none : (r : Range) (e : Pieces ℕ) → r.last < r.first → (count e ≡ 1 → ⊥) → narrowing r e ≡ last FALSE
narrowing_none r e l n = rw (lt-ltb r.last r.first l) (go e n)
  where
    go : (e : Pieces ℕ) → (count e ≡ 1 → ⊥) → emptied e ≡ last FALSE
    go (last c) n = absurd (n refl)
    go (cut c k e) n = refl

-- and any other the edges inside
narrowing_some : (r : Range) (e : Pieces ℕ) → r.first ≤ r.last → narrowing r e ≡ narrowed r.first r.last e
narrowing_some r e l = rw (le-ltb r.last r.first l)

module _ {h : Used} {st : Store} {index : List ℕ} (l : Lent h st index) where
  abbrev t : Table
  t = table_of h st

  module _ {v id : ℕ} {a : View} (va : Views st h.nodes v id a) where
    -- a view of it has as many edges as the id at the variable
    as_many : count (edges_of t v id) ≡ a.count
    as_many = sym (ap count va.edges) ∙ seen_count st.children st.cuts v a va.inside.some

    module _ (k : KnownTo h.nodes id) (b : is_before t v id ≡ false) (hv : v < first_boolean) where
      -- the id tests no earlier variable,
      at_or_after : Child t v id
      at_or_after = (known_held st h.nodes id k, before_no t v id b)

      -- so that its edges here are as those of a node,
      kids_here : Kids t v id (edges_of t v id)
      kids_here = edges_are_kids t (lent_sound l) v id (omega arith) at_or_after

      -- their cuts rising
      rises_here : Rising 0 (top_of v) (edges_of t v id)
      rises_here = edges_rising t (lent_sound l) v id (omega arith) at_or_after

      -- where a view has one edge, that is the id: the edges of a node are two or more
      one_own : a.count ≡ 1 → edges_of t v id ≡ last id
      one_own e = go (ℕ_discrete (at t (ref id)).var v)
        where
          go : Dec ((at t (ref id)).var ≡ v) → edges_of t v id ≡ last id
          go (yes q) = absurd (omega (arith, (facts_at t (lent_sound l) (ref id) (is_node t (ref id) (omega arith)) at_or_after.0).many, count_own t v id q, as_many))
          go (no n) = edge_other t v id n

      module _ (r : Range) where
        abbrev narrows : Table × ℕ
        narrows = create_node t v (narrowing r (edges_of t v id))

        -- narrowing where the variable is not tested: nothing,
        pub narrow_kept : a.count ≡ 1 → narrows ≡ (t, id)
        narrow_kept e = ap (λ (x : Pieces ℕ). create_node t v (narrowing r x)) (one_own e) ∙ (ap (create_node t v) (narrowing_last r id) ∙ create_last t v id)

        -- to an empty range: FALSE,
        pub narrow_emptied : (a.count ≡ 1 → ⊥) → r.last < r.first → narrows ≡ (t, FALSE)
        narrow_emptied n o = ap (create_node t v) (narrowing_none r (edges_of t v id) o (λ q. n (sym as_many ∙ q))) ∙ create_last t v FALSE

        -- and to any other: a node of the edges inside it,
        module _ (some : r.first ≤ r.last) (most : r.last ≤ top) {es : built.Edges} (es-is : Building es × ((w : ℕ) → w < first_boolean → pieces_of es ≡ narrowed r.first r.last (seen st.children st.cuts w a 0))) where
          -- which are those that were made,
          narrowed_pieces : pieces_of es ≡ narrowed r.first r.last (edges_of t v id)
          narrowed_pieces = es-is.1 v hv ∙ ap (narrowed r.first r.last) va.edges

          -- of which a node can be made,
          pub narrow_buildable : Buildable t v es
          narrow_buildable = record {
            building = es-is.0;
            known = omega arith;
            reduced = subst (Reduced 0 (top_of v)) (sym narrowed_pieces) (narrowed_reduced r.first r.last (top_of v) (edges_of t v id) kids_here.reduced);
            kids = subst (Each (Child t (suc v))) (sym narrowed_pieces) ((narrowed_changes v r.first r.last some (omega (arith, range_top v hv))).kids t (edges_of t v id) kids_here.kids);
          }

          -- and it is the one that is wanted
          pub narrow_settles : settle t v (pieces_of es) ≡ narrows
          narrow_settles = ap (settle t v) narrowed_pieces ∙ (sym (create_narrowed_settles t v r.first r.last (edges_of t v id) kids_here.reduced) ∙ ap (create_node t v) (sym (narrowing_some r (edges_of t v id) some)))

        -- widening: the edges inside the range, FALSE outside it
        module _ (some : r.first ≤ r.last) (most : r.last ≤ top) {c : Clip} (clips : (w : ℕ) → w < first_boolean → Rising 0 (top_of w) (seen st.children st.cuts w a 0) → Clips (widened r.first r.last (top_of w) (seen st.children st.cuts w a 0)) c) where
          abbrev wide : Pieces ℕ
          wide = widening v r (edges_of t v id)

          -- they were made, or there are too many,
          clips_here : Clips wide c
          clips_here = subst (λ (x : Pieces ℕ). Clips (widening v r x) c) va.edges (clips v hv (subst (Rising 0 (top_of v)) (sym va.edges) rises_here))

          -- they are a change of the old ones,
          changes : Changes v (widening v r)
          changes = widened_changes v r.first r.last (omega (arith, range_top v hv)) (omega arith)

          -- of which a node can be made,
          pub widen_buildable : c.ok ≡ true → Buildable t v c.edges
          widen_buildable good =
              let g = clips_here.built good in
              record {
                building = g.0;
                known = omega arith;
                reduced = subst (Reduced 0 (top_of v)) (sym g.1) (reduced_merge 0 (top_of v) wide (changes.rising (edges_of t v id) rises_here));
                kids = subst (Each (Child t (suc v))) (sym g.1) (each_merge (Child t (suc v)) wide (changes.kids t (edges_of t v id) kids_here.kids));
              }

          -- and it is the one that is wanted;
          pub widen_settles : c.ok ≡ true → settle t v (pieces_of c.edges) ≡ create_node t v wide
          widen_settles good = ap (settle t v) (clips_here.built good).1

          -- a 65th edge fits nowhere
          pub widen_full : c.ok ≡ false → (id' : NodeId) → Outcome h (create_node t v wide) (record { ok = false; id = id'; used = h }) st st index
          widen_full bad id' = record { lent = l; stays = stays_refl; table = λ q. absurd (not_false_and_true refl q); id = λ q. absurd (not_false_and_true refl q); full = λ q f. not_fits_too_wide t v wide _ _ (clips_here.over bad) f }

-- what was made under one name was made under another
pub outcome_as : {h : Used} {want other : Table × ℕ} {m : Made} {st : Store} {st' : Store} {index' : List ℕ} → Outcome h want m st st' index' → want ≡ other → Outcome h other m st st' index'
outcome_as {h} {m = m} {st} {st'} {index'} o e = subst (λ (w : Table × ℕ). Outcome h w m st st' index') e o
