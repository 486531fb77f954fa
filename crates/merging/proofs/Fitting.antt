-- Room on the way: what does not fit at a step does not fit at the end. Assumes nothing.
use mathlib.Core.Path.{◌≡◌, refl}
use mathlib.Core.Bool.{Bool}
use mathlib.Core.List.{◌∷◌}
use Prim.Native.Nat.{ℕ, zero, suc, ◌+◌, ◌*◌, ◌≤◌, ◌<◌}
use native.Mathlib.Omega.{arith}
use lib.ListN.{length}
use Rattle.ids.specs.Id.{under}
use Rattle.diagram.specs.Pieces.{Pieces, last, cut}
use Rattle.diagram.specs.Shape.{first, count, Each}
use Rattle.diagram.specs.Table.{Node, Table, at, Assignment, Continues, same, more, most_edges}
use Rattle.diagram.specs.Cofactor.{map}
use Rattle.diagram.specs.Sound.{Sound}
use Rattle.diagram.specs.Room.{edge_total, Fits}
use Rattle.diagram.proofs.Lookup.{at_new}
use Rattle.diagram.proofs.Continuing.{continues_trans, continues_length, continues_at}
use Rattle.diagram.proofs.Cofactors.{count_map}
use Rattle.algebra.specs.Overlay.{overlay, merge}
use Rattle.algebra.specs.Making.{find, intern, first_sign, settle, create_node}
use Rattle.algebra.specs.Conjunction.{walk, create_over}
use Rattle.algebra.proofs.Made.{Made}
use Rattle.algebra.proofs.Making.{find_found}
use Rattle.algebra.proofs.Walking.{walk_makes_each}
use Rattle.merging.proofs.Stepping.{first_overlay, Going}

-- an older table fits where a newer one does
edges_less : {t s : Table} → Continues t s → edge_total t ≤ edge_total s
edges_less same = omega arith
edges_less (more nd g) = omega (arith, edges_less g)

pub fits_before : {t s : Table} → Continues t s → (nodes edges : ℕ) → Fits nodes edges s → Fits nodes edges t
fits_before {t} {s} g nodes edges f = record {
  nodes_fit = omega (arith, continues_length g, f.nodes_fit);
  edges_fit = omega (arith, edges_less g, f.edges_fit);
  widths_fit = λ r p l. rw (continues_at g r l) at (f.widths_fit r p (omega (arith, continues_length g)));
}

-- a node that is found or added
pub intern_added : (t : Table) (nd : Node) (s : ℕ) → find t nd ≡ 0 → intern t nd s ≡ (nd ∷ t, 2 * suc (length t) + s)
unfolding intern
intern_added t nd s h = rw (h, intern)

pub intern_found : (t : Table) (nd : Node) (s r : ℕ) → find t nd ≡ suc r → intern t nd s ≡ (t, 2 * suc r + s)
unfolding intern
intern_found t nd s r h = rw (h, intern)

intern_continues : (t : Table) (nd : Node) (s : ℕ) → Continues t (intern t nd s).0
intern_continues t nd s = go (find t nd) refl
  where
    go : (r : ℕ) → find t nd ≡ r → Continues t (intern t nd s).0
    go zero q = rw (intern_added t nd s q) (more nd same)
    go (suc r) q = rw (intern_found t nd s r q) same

intern_width : (t : Table) (nd : Node) (s nodes edges : ℕ) → Fits nodes edges (intern t nd s).0 → count nd.edges ≤ most_edges
intern_width t nd s nodes edges f = go (find t nd) refl
  where
    go : (r : ℕ) → find t nd ≡ r → count nd.edges ≤ most_edges
    go zero q =
        let g : Fits nodes edges (nd ∷ t) = rw (intern_added t nd s q) at f in
        rw (at_new nd t) at (g.widths_fit (suc (length t)) (omega arith) (omega arith))
    go (suc r) q =
        let g : Fits nodes edges t = rw (intern_found t nd s r q) at f in
        let x = find_found t nd in
        let a : at t (suc r) ≡ nd = rw q at (x.there (omega arith)) in
        rw a at (g.widths_fit (suc r) (omega arith) (rw q at x.inside))

pub settle_continues : (t : Table) (v : ℕ) (e : Pieces ℕ) → Continues t (settle t v e).0
unfolding settle
settle_continues t v (last c) = same
settle_continues t v (cut c k e) = intern_continues t _ (first_sign (cut c k e))

pub create_continues : (t : Table) (v : ℕ) (e : Pieces ℕ) → Continues t (create_node t v e).0
create_continues t v e = settle_continues t v (merge e)

-- more than 64 edges, merged, fit nowhere
settle_width : (t : Table) (v : ℕ) (e : Pieces ℕ) (nodes edges : ℕ) → Fits nodes edges (settle t v e).0 → count e ≤ most_edges
unfolding settle
settle_width t v (last c) nodes edges f = omega arith
settle_width t v (cut c k e) nodes edges f =
    let s = first_sign (cut c k e) in
    omega (arith, count_map (under s) (cut c k e), intern_width t (record { var = v; edges = map (under s) (cut c k e) }) s nodes edges f)

pub not_fits_too_wide : (t : Table) (v : ℕ) (e : Pieces ℕ) (nodes edges : ℕ) → most_edges < count (merge e) → Fits nodes edges (create_node t v e).0 → ⊥
not_fits_too_wide t v e nodes edges h f = omega (arith, settle_width t v (merge e) nodes edges f)

-- with an operation f as Walking has it
module _ (f : Table → ℕ × ℕ → Table × ℕ) (t₀ : Table) (u : ℕ) (P : ℕ × ℕ → Type 0) (m : ℕ × ℕ → Assignment → Bool)
    (ok : (s : Table) → Sound s → Continues t₀ s → (a : ℕ × ℕ) → P a → Made s u (m a) (f s a)) where
  first_continues : (t : Table) → Sound t → Continues t₀ t → (e : Pieces (ℕ × ℕ)) → Each P e → Continues (f t (first e)).0 (walk f t e).0
  unfolding walk
  first_continues t z g (last a) h = same
  first_continues t z g (cut a k e) h =
      let x = ok t z g a h.0 in
      (walk_makes_each f t₀ u P m ok (f t a).0 x.sound (continues_trans g x.continues) e h.1).continues

  -- a first answer that does not fit does not fit at the end
  pub not_fits_child_full : (whole : Table × Pieces ℕ) (t : Table) → Sound t → Continues t₀ t → (c k : ℕ → ℕ) (n : ℕ) (e g : Pieces ℕ) → Each P (overlay e g) → Going f whole t c k n e g
      → (v nodes edges : ℕ) → (Fits nodes edges (f t (first e, first g)).0 → ⊥) → Fits nodes edges (create_over v whole).0 → ⊥
  not_fits_child_full whole t z s c k n e g h x v nodes edges no_room fit =
      let i : Continues (f t (first e, first g)).0 whole.0 = rw (first_overlay e g, x.table) at (first_continues t z s (overlay e g) h) in
      no_room (fits_before (continues_trans i (create_continues whole.0 v whole.1)) nodes edges fit)
