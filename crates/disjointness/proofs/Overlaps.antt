-- One step along two lists of edges, when the children of their first overlap are disjoint, and when they are not. Assumes nothing.
use mathlib.Core.Path.{◌≡◌, refl, sym, ◌∙◌, ap}
use mathlib.Core.Bool.{Bool, true, false}
use Prim.Native.Nat.{ℕ, ◌<◌}
use Rattle.diagram.specs.Pieces.{Pieces, last, cut}
use Rattle.diagram.specs.Shape.{first, Rising}
use Rattle.diagram.specs.Table.{Table}
use Rattle.algebra.specs.Overlay.{below, beside, above, overlay}
use Rattle.algebra.specs.Disjointness.{every, disjoint}
use Rattle.algebra.proofs.Commuting.{overlay_left, overlay_right, overlay_both}
use Rattle.merging.proofs.Stepping.{first_overlay}
use Rattle.disjointness.specs.Asking.{apart}

every_not : {A : Type 0} (f : A → Bool) (e : Pieces A) → f (first e) ≡ false → every f e ≡ false
unfolding every
every_not f (last a) h = h
every_not f (cut a k e) h = rw h

module _ (n : ℕ) (t : Table) where
  -- no at an overlap is the answer
  pub apart_not : (e g : Pieces ℕ) → disjoint n t (first e) (first g) ≡ false → apart n t e g ≡ false
  unfolding apart
  apart_not e g h =
      let f : ℕ × ℕ → Bool = λ p. disjoint n t p.0 p.1 in
      every_not f (overlay e g) (ap f (first_overlay e g) ∙ h)

  module _ (x y : ℕ) (yes : disjoint n t x y ≡ true) where
    -- yes at one goes on with the edge that ends first left behind, or both if they end together
    pub apart_left : (k l : ℕ) (e g : Pieces ℕ) → k < l → apart n t (cut x k e) (cut y l g) ≡ apart n t e (cut y l g)
    unfolding apart every
    apart_left k l e g h = rw (overlay_left x k e y l g h, yes)

    pub apart_left_last : (k : ℕ) (e : Pieces ℕ) → apart n t (cut x k e) (last y) ≡ apart n t e (last y)
    unfolding apart every overlay below above
    apart_left_last k e = rw yes

    pub apart_right : (k l : ℕ) (e g : Pieces ℕ) → l < k → apart n t (cut x k e) (cut y l g) ≡ apart n t (cut x k e) g
    unfolding apart every
    apart_right k l e g h = rw (overlay_right x k e y l g h, yes)

    pub apart_right_last : (l : ℕ) (g : Pieces ℕ) → apart n t (last x) (cut y l g) ≡ apart n t (last x) g
    unfolding apart every overlay beside
    apart_right_last l g = rw yes

    pub apart_both : (k l top : ℕ) (e g : Pieces ℕ) → k ≡ l → Rising l top g → apart n t (cut x k e) (cut y l g) ≡ apart n t e g
    unfolding apart every
    apart_both k l top e g h r = rw (overlay_both x k e y l g top (sym h) (rw (sym h) at r), yes)

-- a single overlap
pub apart_one : (n : ℕ) (t : Table) (x y : ℕ) → apart n t (last x) (last y) ≡ disjoint n t x y
unfolding apart every overlay beside
apart_one n t x y = refl
