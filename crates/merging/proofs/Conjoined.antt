-- Conjunction by its opening tests, by what is already known, and at a boolean variable. Assumes nothing.
use mathlib.Core.Path.{◌≡◌, refl, sym, ◌∙◌, ap, ap₂}
use mathlib.Core.Bool.{true, false, ◌&&◌}
use mathlib.Core.Option.{none, some}
use Prim.Native.Nat.{ℕ, suc, ◌+◌, ◌≤◌, ◌<◌}
use native.Mathlib.Omega.{arith}
use borrow.Author.Tests.{le-ltb}
use Rattle.ids.specs.Id.{ref}
use Rattle.diagram.specs.Pieces.{Pieces, last, cut}
use Rattle.diagram.specs.Shape.{first, count, Rising}
use Rattle.diagram.specs.Table.{variables, first_boolean, top_of, Table, at, Assignment, value, Continues}
use Rattle.diagram.specs.Sound.{Known, Child, Sound}
use Rattle.diagram.specs.Reading.{positions}
use Rattle.diagram.proofs.Continuing.{continues_length, continues_value, continues_child}
use Rattle.algebra.specs.Overlay.{overlay}
use Rattle.algebra.specs.Making.{create_node}
use Rattle.algebra.specs.Conjunction.{walk, walk_back, walk_in, create_over, opening, conj_node, conj_step, conj}
use Rattle.algebra.proofs.Commuting.{overlay_both}
use Rattle.algebra.proofs.Made.{Made, made_same_meaning, made_answers}
use Rattle.algebra.proofs.Conjoining.{conj_says_both}
use Rattle.algebra.proofs.Exact.{answer_held}
use Rattle.merging.proofs.Stepping.{overlay_last_last, overlay_last_cut, overlay_cut_last}

-- by its opening tests
pub conj_opened : (n : ℕ) (t : Table) (x y z : ℕ) → opening x y ≡ some z → conj (suc n) t x y ≡ (t, z)
unfolding conj conj_step
conj_opened n t x y z h = rw h

pub conj_walked : (n : ℕ) (t : Table) (x y : ℕ) → opening x y ≡ none
    → conj (suc n) t x y ≡ conj_node (λ s p. conj n s p.0 p.1) t x y (at t (ref x)).var (at t (ref y)).var
unfolding conj conj_step
conj_walked n t x y h = rw h

-- the children's conjunctions, as Walking and Fitting ask for them
pub conj_made : (n : ℕ) (t : Table) (u : ℕ) → variables < u + n → (s : Table) → Sound s → Continues t s → (p : ℕ × ℕ) → Child t u p.0 × Child t u p.1
    → Made s u (λ α. value t α p.0 && value t α p.1) (conj n s p.0 p.1)
conj_made n t u h s z g p k =
    made_same_meaning (conj_says_both n s z u p.0 p.1 (continues_child g u p.0 k.0) (continues_child g u p.1 k.1) h)
    (λ α. ap₂ ◌&&◌ (continues_value g α p.0 k.0.0) (continues_value g α p.1 k.1.0))

-- from a sound table and ids that test variables from u on
module _ (n : ℕ) (t : Table) (z : Sound t) (u x y : ℕ) (kx : Child t u x) (ky : Child t u y) (ahead : variables < u + n) where
  -- an id of the table that says both is the answer
  pub conj_adds_nothing : (c : ℕ) → Known t c → ((α : Assignment) → value t α c ≡ (value t α x && value t α y)) → conj n t x y ≡ (t, c)
  conj_adds_nothing c k h =
      answer_held t z (λ ρ. value t (positions ρ) x && value t (positions ρ) y) (conj n t x y) (made_answers (conj_says_both n t z u x y kx ky ahead) _ (λ ρ. refl)) c k (λ ρ. h (positions ρ))

  -- what the answer says is said of the table that holds it
  pub conj_known_says_both : let out = conj n t x y in
      Known out.0 x × Known out.0 y × Known out.0 out.1 × ((α : Assignment) → value out.0 α out.1 ≡ (value out.0 α x && value out.0 α y))
  conj_known_says_both =
      let m = conj_says_both n t z u x y kx ky ahead in
      let l = continues_length m.continues in
      (omega (arith, l, kx.0), omega (arith, l, ky.0), m.child.0, λ α. m.means α ∙ sym (ap₂ ◌&&◌ (continues_value m.continues α x kx.0) (continues_value m.continues α y ky.0)))

-- a side at a boolean variable has one or two pieces: a value at both positions, or a high one and a low one
pub data HighLow : Pieces ℕ → ℕ → ℕ → Type 0 where
  one : {a : ℕ} → HighLow (last a) a a
  two : {h l : ℕ} → HighLow (cut h 1 (last l)) h l

-- the last value
abbrev pub final : Pieces ℕ → ℕ
final (last a) = a
final (cut a k e) = final e

pub sides : (v : ℕ) → first_boolean ≤ v → (e : Pieces ℕ) → Rising 0 (top_of v) e → HighLow e (first e) (final e)
sides v h (last a) r = one
sides v h (cut a k (last b)) r =
    let x : k ≤ 1 = rw (le-ltb v first_boolean h) at r.1 in
    let e : k ≡ 1 = omega (arith, r.0) in
    rw e two
sides v h (cut a k (cut b l e)) r =
    let x : l ≤ 1 = rw (le-ltb v first_boolean h) at r.2.1 in
    absurd (omega (arith, r.0, r.2.0))

-- two such sides, one over the other, where either has two
pub overlay_sides : {e g : Pieces ℕ} {h l i j : ℕ} → HighLow e h l → HighLow g i j → 2 < count e + count g → overlay e g ≡ cut (h, i) 1 (last (l, j))
overlay_sides one one n = absurd (omega arith)
overlay_sides (one {a = a}) (two {h = i} {l = j}) n = overlay_last_cut a i 1 (last j) ∙ ap (cut (a, i) 1) (overlay_last_last a j)
overlay_sides (two {h = h} {l = l}) (one {a = a}) n = overlay_cut_last h a 1 (last l) ∙ ap (cut (h, a) 1) (overlay_last_last l a)
overlay_sides (two {h = h} {l = l}) (two {h = i} {l = j}) n = overlay_both h 1 (last l) i 1 (last j) 1 refl (omega arith) ∙ ap (cut (h, i) 1) (overlay_last_last l j)

-- a node over two values, the high one first or the low one first
module _ {A : Type 0} (f : Table → A → Table × ℕ) (v : ℕ) (t : Table) (p q : A) where
  pub pair_high_first : create_over v (walk_in false f t (cut p 1 (last q))) ≡ (let x = f t p in let y = f x.0 q in create_node y.0 v (cut x.1 1 (last y.1)))
  unfolding walk_in walk
  pair_high_first = refl

  pub pair_low_first : create_over v (walk_in true f t (cut p 1 (last q))) ≡ (let y = f t q in let x = f y.0 p in create_node x.0 v (cut x.1 1 (last y.1)))
  unfolding walk_in walk_back
  pair_low_first = refl
