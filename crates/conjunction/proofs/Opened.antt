-- The opening tests, one after the other. Assumes nothing.
use mathlib.Core.Path.{◌≡◌, refl, sym, ◌∙◌}
use mathlib.Core.Bool.{Bool, true, false, ◌||◌}
use mathlib.Core.Option.{some, none}
use Prim.Native.Nat.{ℕ}
use lib.Dec.{eqb}
use Rattle.ids.specs.Id.{TRUE, FALSE, flip}
use Rattle.algebra.specs.Conjunction.{opening}

module _ (x y : ℕ) where
  -- x is TRUE
  pub opened_right : eqb x TRUE ≡ true → opening x y ≡ some y
  unfolding opening
  opened_right p = rw p refl

  module _ (p : eqb x TRUE ≡ false) where
    -- y is TRUE
    pub opened_left : eqb y TRUE ≡ true → opening x y ≡ some x
    unfolding opening
    opened_left q = rw (p, q) refl

    module _ (q : eqb y TRUE ≡ false) where
      -- they are equal
      pub opened_same : eqb x y ≡ true → opening x y ≡ some x
      unfolding opening
      opened_same e = rw (p, q, e) refl

      -- one is FALSE or they are opposite, or they decide nothing
      module _ (n : eqb x y ≡ false) {r : Bool} (o : r ≡ (eqb x FALSE || (eqb y FALSE || eqb (flip x) y))) where
        pub opened_opposed : r ≡ true → opening x y ≡ some FALSE
        unfolding opening
        opened_opposed h = rw (p, q, n, sym o ∙ h) refl

        pub opened_none : r ≡ false → opening x y ≡ none
        unfolding opening
        opened_none h = rw (p, q, n, sym o ∙ h) refl
