-- What a table holds after one more node, and what flipping an id says. Assumes nothing.
use mathlib.Core.Path.{◌≡◌, refl, sym, ◌∙◌, ap}
use mathlib.Core.Bool.{Bool, true, false, not, cond, not-not}
use mathlib.Core.List.{[], ◌∷◌}
use Prim.Native.Nat.{ℕ, zero, suc, ◌+◌, ◌-◌, ◌*◌, ◌/◌, ◌%◌, ◌≤◌, ◌<◌}
use native.Mathlib.Omega.{arith}
use lib.Dec.{eqb}
use lib.ListN.{length}
use borrow.Author.Tests.{eq-eqb, ne_eqb}
use Rattle.ids.specs.Id.{sign, ref, flip, under}
use Rattle.ids.proofs.Signs.{ref_flip, sign_flip}
use Rattle.diagram.specs.Pieces.{last, select}
use Rattle.diagram.specs.Table.{variables, Node, Table, at, Assignment, flipped, signed, value}

-- the terminal as a node
abbrev pub end : Node
end = record { var = variables; edges = last 0 }

-- what a ref says, whatever the sign of its id
unfoldable pub truth : Table → Assignment → ℕ → Bool
truth [] α r = true
truth (nd ∷ t) α r = cond (eqb r (suc (length t))) (value t α (select nd.edges (α nd.var))) (truth t α r)

pub value_truth : (t : Table) (α : Assignment) (id : ℕ) → value t α id ≡ signed id (truth t α (ref id))
unfolding value truth
value_truth [] α id = refl
value_truth (nd ∷ t) α id = go (eqb (ref id) (suc (length t))) (value_truth t α id)
  where
    go : (b : Bool) → value t α id ≡ signed id (truth t α (ref id))
        → cond b (signed id (value t α (select nd.edges (α nd.var)))) (value t α id) ≡ signed id (cond b (value t α (select nd.edges (α nd.var))) (truth t α (ref id)))
    go true e = refl
    go false e = e

module _ (nd : Node) (t : Table) where
  pub at_new : at (nd ∷ t) (suc (length t)) ≡ nd
  unfolding at
  at_new = rw (eq-eqb (suc (length t)) (suc (length t)) refl)

  pub at_old : (r : ℕ) → r ≤ length t → at (nd ∷ t) r ≡ at t r
  unfolding at
  at_old r h = rw (ne_eqb r (suc (length t)) (omega arith))

  pub truth_new : (α : Assignment) → truth (nd ∷ t) α (suc (length t)) ≡ value t α (select nd.edges (α nd.var))
  unfolding truth
  truth_new α = rw (eq-eqb (suc (length t)) (suc (length t)) refl)

  pub truth_old : (α : Assignment) (r : ℕ) → r ≤ length t → truth (nd ∷ t) α r ≡ truth t α r
  unfolding truth
  truth_old α r h = rw (ne_eqb r (suc (length t)) (omega arith))

  pub value_old : (α : Assignment) (id : ℕ) → ref id ≤ length t → value (nd ∷ t) α id ≡ value t α id
  unfolding value
  value_old α id h = rw (ne_eqb (ref id) (suc (length t)) (omega arith))

pub at_end : (t : Table) → at t 0 ≡ end
unfolding at
at_end [] = refl
at_end (nd ∷ t) = rw (ne_eqb 0 (suc (length t)) (omega arith)) (at_end t)

pub truth_end : (t : Table) (α : Assignment) → truth t α 0 ≡ true
unfolding truth
truth_end [] α = refl
truth_end (nd ∷ t) α = rw (ne_eqb 0 (suc (length t)) (omega arith)) (truth_end t α)

pub value_true : (t : Table) (α : Assignment) (id : ℕ) → id ≡ 0 → value t α id ≡ true
value_true t α id e = value_truth t α id ∙ rw (e, truth_end t α)

pub value_false : (t : Table) (α : Assignment) (id : ℕ) → id ≡ 1 → value t α id ≡ false
value_false t α id e = value_truth t α id ∙ rw (e, truth_end t α)

-- signs
not_flipped : (s : ℕ) (b : Bool) → s < 2 → flipped (1 - s) b ≡ not (flipped s b)
not_flipped zero b h = refl
not_flipped (suc zero) b h = sym (not-not b)
not_flipped (suc (suc s)) b h = absurd (omega arith)

pub flipped_flipped : (s : ℕ) (b : Bool) → flipped s (flipped s b) ≡ b
flipped_flipped zero b = refl
flipped_flipped (suc s) b = not-not b

-- whatever the truth of refs, flipping an id flips its own
pub signed_flip : (f : ℕ → Bool) (id : ℕ) → signed (flip id) (f (ref (flip id))) ≡ not (signed id (f (ref id)))
signed_flip f id = rw (ref_flip id, sign_flip id) (not_flipped (sign id) (f (ref id)) (omega arith))

pub signed_under : (f : ℕ → Bool) (s id : ℕ) → signed (under s id) (f (ref (under s id))) ≡ flipped s (signed id (f (ref id)))
signed_under f zero id = refl
signed_under f (suc s) id = signed_flip f id

pub value_flip : (t : Table) (α : Assignment) (id : ℕ) → value t α (flip id) ≡ not (value t α id)
value_flip t α id = value_truth t α (flip id) ∙ signed_flip (truth t α) id ∙ ap not (sym (value_truth t α id))

pub value_under : (t : Table) (α : Assignment) (s id : ℕ) → value t α (under s id) ≡ flipped s (value t α id)
value_under t α s id = value_truth t α (under s id) ∙ signed_under (truth t α) s id ∙ ap (flipped s) (sym (value_truth t α id))

-- the id of a ref with a sign
pub value_ref : (t : Table) (α : Assignment) (r s : ℕ) → s < 2 → value t α (2 * r + s) ≡ flipped s (truth t α r)
value_ref t α r s h =
    let d : (2 * r + s) / 2 ≡ r = omega arith in
    let m : (2 * r + s) % 2 ≡ s = omega arith in
    value_truth t α (2 * r + s) ∙ rw (d, m)
