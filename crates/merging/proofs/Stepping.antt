-- The overlay of two sides walked from the left by the nearer of their first cuts, one edge of the result at a step. Assumes nothing.
use mathlib.Core.Path.{◌≡◌, refl, sym, ◌∙◌, ap}
use mathlib.Core.Bool.{Bool, true, false, cond}
use Prim.Native.Nat.{ℕ, ◌+◌, ◌-◌, ◌<◌}
use lib.Dec.{ltb}
use Rattle.diagram.specs.Pieces.{Pieces, last, cut}
use Rattle.diagram.specs.Shape.{first, count, Rising, run}
use Rattle.diagram.specs.Table.{Table}
use Rattle.algebra.specs.Overlay.{below, beside, above, overlay, merge}
use Rattle.algebra.specs.Conjunction.{walk}
use Rattle.algebra.proofs.Commuting.{overlay_right, overlay_left, overlay_both}
use Rattle.merging.proofs.Gluing.{Glue, Put, glue_none, glue_step, run_is_merge, glued_below_count}

-- the overlay by its first piece, where a side has no cut left
module _ {A B : Type 0} (a : A) (b : B) where
  pub overlay_last_last : overlay (last a) (last b) ≡ last (a, b)
  unfolding overlay beside
  overlay_last_last = refl

  pub overlay_last_cut : (l : ℕ) (f : Pieces B) → overlay (last a) (cut b l f) ≡ cut (a, b) l (overlay (last a) f)
  unfolding overlay beside
  overlay_last_cut l f = refl

  pub overlay_cut_last : (k : ℕ) (e : Pieces A) → overlay (cut a k e) (last b) ≡ cut (a, b) k (overlay e (last b))
  unfolding overlay below above
  overlay_cut_last k e = refl

-- and its first piece is that of the first pieces
pub first_overlay : {A B : Type 0} (e : Pieces A) (f : Pieces B) → first (overlay e f) ≡ (first e, first f)
unfolding overlay beside below
first_overlay (last a) (last b) = refl
first_overlay (last a) (cut b l f) = refl
first_overlay (cut a k e) (last b) = refl
first_overlay (cut a k e) (cut b l f) = go (ltb l k)
  where
    go : (q : Bool) → first (cond q (cut (a, b) l (below a k f (overlay e (above k (cut b l f))))) (cut (a, b) k (overlay e (above k (cut b l f))))) ≡ (a, b)
    go true = refl
    go false = refl

-- a walk by its first piece
module _ {A : Type 0} (f : Table → A → Table × ℕ) (t : Table) (a : A) where
  pub walk_last : walk f t (last a) ≡ ((f t a).0, last (f t a).1)
  unfolding walk
  walk_last = refl

  pub walk_cut : (k : ℕ) (e : Pieces A) → walk f t (cut a k e) ≡ ((walk f (f t a).0 e).0, cut (f t a).1 k (walk f (f t a).0 e).1)
  unfolding walk
  walk_cut k e = refl

pub first_walk : {A : Type 0} (f : Table → A → Table × ℕ) (t : Table) (e : Pieces A) → first (walk f t e).1 ≡ (f t (first e)).1
unfolding walk
first_walk f t (last a) = refl
first_walk f t (cut a k e) = refl

-- under way, with n edges made and e and g left: the table t and those edges come to the whole
pub record Going (f : Table → ℕ × ℕ → Table × ℕ) (whole : Table × Pieces ℕ) (t : Table) (c k : ℕ → ℕ) (n : ℕ) (e g : Pieces ℕ) : Type 0 where
  pub table : (walk f t (overlay e g)).0 ≡ whole.0
  pub glue : Glue c k n whole.1 (walk f t (overlay e g)).1

module _ (f : Table → ℕ × ℕ → Table × ℕ) where
  -- at the start
  pub going_none : (t : Table) (c k : ℕ → ℕ) (e g : Pieces ℕ) → Going f (walk f t (overlay e g)) t c k 0 e g
  going_none t c k e g = record { table = refl; glue = glue_none c k (walk f t (overlay e g)).1 }

  module _ (whole : Table × Pieces ℕ) (t : Table) (c k c' k' : ℕ → ℕ) (n s : ℕ) where
    -- an answer put into its slot
    abbrev pub Answered : (a b : ℕ) → Type 0
    Answered a b = Put c k c' k' n s (f t (a, b)).1

    -- a step to the nearer cut l, with e' and g' left
    going_step : (a b l : ℕ) (e g e' g' : Pieces ℕ) → overlay e g ≡ cut (a, b) l (overlay e' g') → Going f whole t c k n e g → Answered a b → k' s ≡ l → Going f whole (f t (a, b)).0 c' k' (s + 1) e' g'
    going_step a b l e g e' g' o x p q =
        let w = ap (walk f t) o ∙ walk_cut f t (a, b) l (overlay e' g') in
        record {
          table = sym (ap (λ (y : Table × Pieces ℕ). y.0) w) ∙ x.table;
          glue = glue_step c k c' k' n s (f t (a, b)).1 l whole.1 (walk f (f t (a, b)).0 (overlay e' g')).1 (rw w at x.glue) p q;
        }

    module _ (a b : ℕ) where
      pub going_last_cut : (l : ℕ) (g : Pieces ℕ) → Going f whole t c k n (last a) (cut b l g) → Answered a b → k' s ≡ l → Going f whole (f t (a, b)).0 c' k' (s + 1) (last a) g
      going_last_cut l g = going_step a b l (last a) (cut b l g) (last a) g (overlay_last_cut a b l g)

      pub going_cut_last : (j : ℕ) (e : Pieces ℕ) → Going f whole t c k n (cut a j e) (last b) → Answered a b → k' s ≡ j → Going f whole (f t (a, b)).0 c' k' (s + 1) e (last b)
      going_cut_last j e = going_step a b j (cut a j e) (last b) e (last b) (overlay_cut_last a b j e)

      module _ (j l : ℕ) (e g : Pieces ℕ) (x : Going f whole t c k n (cut a j e) (cut b l g)) (p : Answered a b) where
        pub going_less : j < l → k' s ≡ j → Going f whole (f t (a, b)).0 c' k' (s + 1) e (cut b l g)
        going_less h = going_step a b j (cut a j e) (cut b l g) e (cut b l g) (overlay_left a j e b l g h) x p

        pub going_same : (hi : ℕ) → j ≡ l → Rising j hi g → k' s ≡ j → Going f whole (f t (a, b)).0 c' k' (s + 1) e g
        going_same hi h r = going_step a b j (cut a j e) (cut b l g) e g (overlay_both a j e b l g hi (sym h) r) x p

        pub going_more : l < j → k' s ≡ l → Going f whole (f t (a, b)).0 c' k' (s + 1) (cut a j e) g
        going_more h = going_step a b l (cut a j e) (cut b l g) (cut a j e) g (overlay_right a j e b l g h) x p

      -- the last step: the table is the whole's, and what stands in the slots is the whole's edges, merged
      pub going_ends_whole : Going f whole t c k n (last a) (last b) → Answered a b → ((f t (a, b)).0 ≡ whole.0) × (run c' k' 0 s ≡ merge whole.1)
      going_ends_whole x p =
          let w = ap (walk f t) (overlay_last_last a b) ∙ walk_last f t (a, b) in
          (sym (ap (λ (y : Table × Pieces ℕ). y.0) w) ∙ x.table, run_is_merge c k c' k' n s (f t (a, b)).1 whole.1 (rw w at x.glue) p)

-- the whole has more edges than were made, if the next answer is another child than the last
pub going_below_count : (f : Table → ℕ × ℕ → Table × ℕ) (whole : Table × Pieces ℕ) (t : Table) (c k : ℕ → ℕ) (n : ℕ) (e g : Pieces ℕ)
    → Going f whole t c k n e g → (0 < n → c (n - 1) ≡ (f t (first e, first g)).1 → ⊥) → n < count (merge whole.1)
going_below_count f whole t c k n e g x h =
    glued_below_count c k n whole.1 (walk f t (overlay e g)).1 x.glue (λ l q. h l (q ∙ first_walk f t (overlay e g) ∙ ap (λ (p : ℕ × ℕ). (f t p).1) (first_overlay e g)))
