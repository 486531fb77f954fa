-- Edges of a view copied one after another up to a position, as narrowing does. Assumes nothing.
use mathlib.Core.Path.{◌≡◌, refl, sym, ◌∙◌, ap}
use mathlib.Core.List.{List}
use mathlib.Core.Logic.{⊎_elim}
use Prim.Native.Nat.{ℕ, zero, suc, ◌+◌, ◌-◌, ◌≤◌, ◌<◌}
use native.Mathlib.Omega.{arith}
use native.Mathlib.Nat.{zero-add}
use lib.ListN.{length}
use lib.IntN.{ℤ}
use borrow.Author.Tests.{le-leb, lt-leb}
use Rattle.ids.specs.declared.NodeId.{NodeId}
use Rattle.ranges.specs.Line.{top}
use Rattle.diagram.specs.Pieces.{cut}
use Rattle.diagram.specs.Shape.{run}
use Rattle.diagram.specs.Table.{first_boolean, most_edges}
use Rattle.diagram.proofs.Numbered.{run_shift}
use Rattle.algebra.specs.Changing.{cut_above}
use Rattle.table.proofs.Laws.{lt_or_le}
use Rattle.making.specs.declared.edges.Edge.{Edge}
use Rattle.making.specs.declared.edges.Edges as built
use Rattle.making.specs.Building.{Building, child_in, cut_in, pieces_of}
use Rattle.making.proofs.Slots.{stored, stored_size, stored_keeps, stored_child}
use Rattle.views.specs.declared.View.{View}
use Rattle.views.specs.Seeing.{Inside, beyond, child_seen, cut_seen, seen}
use Rattle.views.proofs.Sights.{cut_seen_range}

-- a run cut above a position ends with its first piece that reaches past it
cut_above_run : (c k : ℕ → ℕ) (hi i m n : ℕ) → n ≤ m → ((j : ℕ) → j < n → k (i + j) ≤ hi) → (n < m → hi < k (i + n)) → cut_above hi (run c k i m) ≡ run c k i n
unfolding cut_above run
cut_above_run c k hi i zero zero h g e = refl
cut_above_run c k hi i zero (suc n) h g e = absurd (omega arith)
cut_above_run c k hi i (suc m) zero h g e =
    let z : i ≡ i + 0 = omega arith in
    rw (lt-leb (k i) hi (omega (arith, e (omega arith), ap k z)))
cut_above_run c k hi i (suc m) (suc n) h g e =
    let z : i ≡ i + 0 = omega arith in
    rw (le-leb (k i) hi (omega (arith, g 0 (omega arith), ap k z)))
    (ap (cut (c i) (k i)) (cut_above_run c k hi (suc i) m n (omega arith) (λ j l. omega (arith, g (suc j) (omega arith), ap k (next j))) (λ l. omega (arith, e (omega arith), ap k (next n)))))
  where
    next : (j : ℕ) → suc i + j ≡ i + suc j
    next j = omega arith

module _ (children : List ℕ) (cuts : List ℤ) (a : View) (hi from : ℕ) where
  -- What the loop keeps: the edges from edge `from` up to edge i stand in the first slots, and all of them end within the position.
  pub record Copying (out : built.Edges) (i : ℕ) : Type 0 where
    pub size : length out.list ≡ most_edges
    pub here : i ≡ from + out.len
    pub inside : i < a.count
    pub kids : (j : ℕ) → j < out.len → child_in out j ≡ child_seen children a (from + j)
    pub ends : (j : ℕ) → j < out.len → cut_in out j ≡ cut_seen cuts 0 a (from + j)
    pub small : (j : ℕ) → j < out.len → cut_seen cuts 0 a (from + j) ≤ hi

module _ {children : List ℕ} {cuts : List ℤ} {a : View} {hi from : ℕ} {out : built.Edges} {i : ℕ} (w : Inside (length children) a) (x : Copying children cuts a hi from out i) where
  pub slot_free : out.len < most_edges
  slot_free = omega (arith, x.inside, x.here, w.most)

  -- one edge more, to the child c and up to the cut k
  module _ (low : hi ≤ top) {k : ℕ} {c : NodeId} {e : Edge} (new : e ≡ record { cut = k; child = c; spare = 0 }) (real : i + 1 < a.count → k ≡ cut_seen cuts 0 a i) (end : a.count ≤ i + 1 → k ≡ beyond) (kid : c.0 ≡ child_seen children a i) where
    abbrev more : built.Edges
    more = record { list = (stored out out.len e).list; len = out.len + 1 }

    -- a slot up to the new one: an old one, or the new one
    up_to : (P : ℕ → Type 0) → ((j : ℕ) → j < out.len → P j) → P out.len → (j : ℕ) → j < out.len + 1 → P j
    up_to P old new j l = ⊎_elim (old j) (λ g. let z : out.len ≡ j = omega arith in rw z at new) (lt_or_le j out.len)

    more_kids : (j : ℕ) → j < out.len + 1 → child_in more j ≡ child_seen children a (from + j)
    more_kids = up_to (λ j. child_in more j ≡ child_seen children a (from + j)) (λ j l. (stored_keeps out out.len e x.size j l).0 ∙ x.kids j l) (stored_child out out.len e x.size slot_free ∙ (ap (λ (y : Edge). y.child.0) new ∙ (kid ∙ ap (child_seen children a) x.here)))

    old_ends : (j : ℕ) → j < out.len → cut_in more j ≡ cut_seen cuts 0 a (from + j)
    old_ends j l = (stored_keeps out out.len e x.size j l).1 ∙ x.ends j l

    -- past the position: what stands in the slots in the end
    pub copied : hi < k → Building more × ((v : ℕ) → v < first_boolean → pieces_of more ≡ cut_above hi (seen children cuts v a from))
    unfolding seen
    copied h = (
      record { size = stored_size out out.len e x.size; some = omega arith; most = omega (arith, slot_free) },
      λ v r. (let z : out.len + 1 - 1 ≡ out.len = omega arith in ap (run (child_in more) (cut_in more) 0) z)
          ∙ (run_shift (child_in more) (child_seen children a) (cut_in more) (cut_seen cuts v a) 0 from out.len (λ j l. ap (child_in more) (zero-add j) ∙ more_kids j (omega arith)) (λ j l. ap (cut_in more) (zero-add j) ∙ (old_ends j l ∙ sym (cut_seen_range cuts v a (from + j) r)))
          ∙ sym (cut_above_run (child_seen children a) (cut_seen cuts v a) hi from (a.count - 1 - from) out.len (omega (arith, x.here, x.inside)) (λ j l. omega (arith, x.small j l, cut_seen_range cuts v a (from + j) r)) (λ l. omega (arith, h, real (omega (arith, x.here)), ap (cut_seen cuts 0 a) x.here, cut_seen_range cuts v a (from + out.len) r)))),
    )
