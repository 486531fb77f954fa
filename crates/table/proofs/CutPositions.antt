-- Cuts by their positions: the rule that the check follows is document 01's rule. Assumes nothing.
use mathlib.Core.Path.{◌≡◌, refl, sym, subst}
use mathlib.Core.Bool.{Bool, true, false, cond}
use mathlib.Core.List.{List}
use Prim.Native.Nat.{ℕ, zero, suc, ◌+◌, ◌-◌, ◌<◌, ◌^◌}
use native.Mathlib.Omega.{arith}
use borrow.Author.Tests.{lt-ltb, ltb-true}
use lib.Dec.{ltb, leb→le, le→leb, ltb→lt, lt→ltb}
use lib.IntN.{ℤ, pos, negsuc}
use lib.Signed.{◌<ℤ◌, le_z_yes}
use Rattle.ranges.specs.Line.{Cut, Place, position}
use Rattle.diagram.specs.Table.{first_boolean}
use Rattle.table.specs.Layout.{var_at, count_at, first_at, cut_at, cut_position, Store}
use Rattle.table.specs.Lent.{Cuts, Rules}
use Rattle.table.specs.Checking.{below, Climbs}
use Rattle.table.proofs.Laws as laws

-- a cut is what has a position above 0, and then these are the positions
cut_pos : (n : ℕ) → Cut (pos n) → n < 2 ^ 32
cut_pos n h = omega (arith, leb→le n (2 ^ 32 - 1) h.1.le)

cut_neg : (n : ℕ) → Cut (negsuc n) → n < 2 ^ 32
cut_neg n h = omega (arith, leb→le n (2 ^ 32 - 1) h.0.le)

pos_cut : (n : ℕ) → n < 2 ^ 32 → cut_position (pos n) ≡ n + 4294967297
pos_cut n h = rw (lt-ltb n (2 ^ 32) h)

pub is_cut : (z : ℤ) → 0 < cut_position z → Cut z
is_cut (pos n) h = (le_z_yes tt, record { le = le→leb n (2 ^ 32 - 1) (omega (arith, go (ltb n (2 ^ 32)) refl h)) })
  where
    go : (b : Bool) → ltb n (2 ^ 32) ≡ b → 0 < cond b (n + 4294967297) 0 → n < 2 ^ 32
    go true e h = ltb-true n (2 ^ 32) e
    go false e h = absurd (omega arith)
is_cut (negsuc n) h = (record { le = le→leb n (2 ^ 32 - 1) (omega arith) }, le_z_yes tt)

pub zero_cut_lem : {z : ℤ} → z ≡ pos 0 → Cut z
zero_cut_lem e = subst Cut (sym e) (le_z_yes tt, le_z_yes tt)

pub has_position : (z : ℤ) → Cut z → 0 < cut_position z
has_position (pos n) h = omega (arith, pos_cut n (cut_pos n h))
has_position (negsuc n) h = omega (arith, cut_neg n h)

-- a place's cutPosition is its position
pub cut_position_place : (z : ℤ) → Place z → cut_position z ≡ position z
cut_position_place (pos n) h = rw (lt-ltb n (2 ^ 32) (omega (arith, leb→le n (2 ^ 32 - 1) h.1.le)))
cut_position_place (negsuc n) h = refl

pub cut_position_up : (y z : ℤ) → Cut y → Cut z → y <ℤ z → cut_position y < cut_position z
cut_position_up (pos m) (pos n) a b l = omega (arith, pos_cut m (cut_pos m a), pos_cut n (cut_pos n b), ltb→lt m n l.lt)
cut_position_up (pos m) (negsuc n) a b l = absurd l.lt
cut_position_up (negsuc m) (pos n) a b l = omega (arith, pos_cut n (cut_pos n b))
cut_position_up (negsuc m) (negsuc n) a b l = omega (arith, ltb→lt n m l.lt, cut_neg m a)

pub cut_position_down : (y z : ℤ) → Cut y → Cut z → cut_position y < cut_position z → y <ℤ z
cut_position_down (pos m) (pos n) a b l = record { lt = lt→ltb m n (omega (arith, pos_cut m (cut_pos m a), pos_cut n (cut_pos n b))) }
cut_position_down (pos m) (negsuc n) a b l = absurd (omega (arith, pos_cut m (cut_pos m a)))
cut_position_down (negsuc m) (pos n) a b l = record { lt = tt }
cut_position_down (negsuc m) (negsuc n) a b l = record { lt = lt→ltb n m (omega arith) }

module _ (cuts : List ℤ) (e count : ℕ) where
  pub cuts_from_climbs : Climbs cuts e count → Cuts cuts e count
  cuts_from_climbs r = record { within = cut; strictly = λ j l. cut_position_down (cut_at cuts (e + j)) (cut_at cuts (e + (j + 1))) (cut j (omega arith)) (cut (j + 1) (omega arith)) (omega (arith, r.rise (j + 1) (omega arith), laws.below_next cuts e j)); last = r.last }
    where
      cut : (j : ℕ) → j + 1 < count → Cut (cut_at cuts (e + j))
      cut j l = is_cut (cut_at cuts (e + j)) (omega (arith, r.rise j l))

  pub climbs_from_cuts : Cuts cuts e count → Climbs cuts e count
  climbs_from_cuts r = record { rise = rise; last = r.last }
    where
      rise : (j : ℕ) → j + 1 < count → below cuts e j < cut_position (cut_at cuts (e + j))
      rise zero l = has_position (cut_at cuts (e + 0)) (r.within 0 l)
      rise (suc j) l =
          let a : e + (j + 1) ≡ e + suc j = omega arith in
          let x = cut_position_up (cut_at cuts (e + j)) (cut_at cuts (e + (j + 1))) (r.within j (omega arith)) (r.within (j + 1) (omega arith)) (r.strictly j (omega arith)) in
          subst (λ (i : ℕ). cut_position (cut_at cuts (e + j)) < cut_position (cut_at cuts i)) a x

-- the cuts of a record that keeps the rules climb
pub climbs : (st : Store) (n : ℕ) → Rules st n → var_at st.nodes n < first_boolean → Climbs st.cuts (first_at st.nodes n) (count_at st.nodes n)
climbs st n r h = climbs_from_cuts st.cuts (first_at st.nodes n) (count_at st.nodes n) (r.ranges h)
