-- An edge stored in a slot: what stands there, that the other slots stay, and which slot it is. Assumes nothing.
use mathlib.Core.Path.{◌≡◌, sym, ◌∙◌, ap, subst}
use mathlib.Core.Logic.{◌⊎◌, inl, inr}
use Prim.Native.Nat.{ℕ, ◌-◌, ◌≤◌, ◌<◌}
use native.Mathlib.Omega.{arith}
use native.Mathlib.Decide.{ℕ_discrete}
use lib.ListN.{length, set, length-set}
use lib.Seq.{get_or-set_same, get_or-set_other}
use Rattle.diagram.specs.Table.{most_edges}
use Rattle.table.proofs.Laws.{lt_or_le}
use Rattle.merging.proofs.Gluing.{Slot, next, again, Keeps, Put}
use Rattle.making.specs.declared.edges.Edge.{Edge}
use Rattle.making.specs.declared.edges.Edges as built
use Rattle.making.specs.Building.{none, child_in, cut_in}

-- edges under construction, with the edge e in slot s
abbrev pub stored : built.Edges → ℕ → Edge → built.Edges
stored out s e = record { list = set out.list s e; len = out.len }

module _ (out : built.Edges) (s : ℕ) (e : Edge) (size : length out.list ≡ most_edges) where
  pub stored_size : length (stored out s e).list ≡ most_edges
  stored_size = simp length-set size

  pub stored_other : (i : ℕ) → (i ≡ s → ⊥) → (child_in (stored out s e) i ≡ child_in out i) × (cut_in (stored out s e) i ≡ cut_in out i)
  stored_other i l = let x = get_or-set_other out.list s i e none (λ q. l (omega arith)) in (ap (λ (y : Edge). y.child.0) x, ap (λ (y : Edge). y.cut) x)

  pub stored_keeps : Keeps (child_in out) (cut_in out) (child_in (stored out s e)) (cut_in (stored out s e)) s
  stored_keeps i l = stored_other i (λ q. omega arith)

  pub stored_child : s < most_edges → child_in (stored out s e) s ≡ e.child.0
  stored_child l = ap (λ (y : Edge). y.child.0) (get_or-set_same out.list s e none (omega arith))

  pub stored_cut_lem : s < most_edges → cut_in (stored out s e) s ≡ e.cut
  stored_cut_lem l = ap (λ (y : Edge). y.cut) (get_or-set_same out.list s e none (omega arith))

-- what `slot_for` says of the slot s for an edge to the child d, where the last of n edges leads to f
abbrev pub SlotFor : (n f d s : ℕ) → Type 0
SlotFor n f d s = (0 < n → f ≡ d → s ≡ n - 1) × ((0 < n → f ≡ d → ⊥) → s ≡ n)

-- it is the next one at most
pub slot_most : {n f d s : ℕ} → SlotFor n f d s → s ≤ n
slot_most {n} {f} {d} {s} sf = go (ℕ_discrete f d) (lt_or_le 0 n)
  where
    go : Dec (f ≡ d) → (0 < n) ⊎ (n ≤ 0) → s ≤ n
    go (yes e) (inl g) = omega (arith, sf.0 g e)
    go (yes e) (inr g) = omega (arith, sf.1 (λ p. absurd (omega arith)))
    go (no e) g = omega (arith, sf.1 (λ p q. e q))

-- n edges are in use, and the last of them leads to f: the slot of an edge to d
pub slot_for_is : (c : ℕ → ℕ) (n f d s : ℕ) → (0 < n → f ≡ c (n - 1)) → SlotFor n f d s → Slot c n d s
slot_for_is c n f d s own sf = go (ℕ_discrete f d) (lt_or_le 0 n)
  where
    go : Dec (f ≡ d) → (0 < n) ⊎ (n ≤ 0) → Slot c n d s
    go (yes e) (inl g) = subst (Slot c n d) (sym (sf.0 g e)) (again g (sym (own g) ∙ e))
    go (yes e) (inr g) = subst (Slot c n d) (sym (sf.1 (λ p. absurd (omega arith)))) (next (λ p. absurd (omega arith)))
    go (no e) g = subst (Slot c n d) (sym (sf.1 (λ p q. e q))) (next (λ p q. e (own p ∙ q)))

module _ (out : built.Edges) (size : length out.list ≡ most_edges) (n f d s : ℕ) (own : 0 < n → f ≡ child_in out (n - 1)) (sf : SlotFor n f d s) where
  -- an edge to the child d in that slot
  pub stored_is_put : (e : Edge) → e.child.0 ≡ d → s < most_edges → Put (child_in out) (cut_in out) (child_in (stored out s e)) (cut_in (stored out s e)) n s d
  stored_is_put e q l = record { slot = slot_for_is (child_in out) n f d s own sf; keeps = stored_keeps out s e size; child = stored_child out s e size l ∙ q }

  -- a slot that is none of those in use is the next one, and the last edge leads elsewhere
  pub slot_new : n ≤ s → (s ≡ n) × (0 < n → child_in out (n - 1) ≡ d → ⊥)
  slot_new h = (sf.1 other, λ p q. other p (own p ∙ q))
    where
      other : 0 < n → f ≡ d → ⊥
      other p q = omega (arith, sf.0 p q)
