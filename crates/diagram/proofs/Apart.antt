-- Canonicity: two ids of a sound table that are not equal are told apart by an assignment, which is shown. Assumes nothing.
use mathlib.Core.Path.{◌≡◌, refl, sym, ◌∙◌, ap}
use mathlib.Core.Bool.{Bool, true, false, cond, true≢false, false≢true}
use Prim.Native.Nat.{ℕ, zero, suc, ◌+◌, ◌≤◌, ◌<◌, min}
use native.Mathlib.Omega.{arith}
use native.Mathlib.Decide.{ℕ_discrete, dec_lt}
use lib.Dec.{eqb}
use borrow.Author.Tests.{eqb-true, eqb-false}
use Rattle.ids.specs.Id.{sign, ref, under}
use Rattle.ids.proofs.Signs.{under_inj}
use Rattle.diagram.specs.Pieces.{Pieces, last, select}
use Rattle.diagram.specs.Shape.{count}
use Rattle.diagram.specs.Table.{variables, top_of, Table, at, Assignment, flipped, value}
use Rattle.diagram.specs.Cofactor.{map, edges_of, upd, Within}
use Rattle.diagram.specs.Sound.{Known, Child, Sound}
use Rattle.diagram.proofs.Piecewise.{differ}
use Rattle.diagram.proofs.Lookup.{value_truth}
use Rattle.diagram.proofs.Facts.{facts_at, is_node, is_end, at_inj, origin, truth_origin}
use Rattle.diagram.proofs.Cofactors.{count_map, map_inj, edges_are_kids, edge_child, value_edge, upd_within}

-- an assignment under which two ids say different things
pub record Apart (t : Table) (a b : ℕ) : Type 0 where
  pub assigned : Assignment
  pub within : Within assigned
  pub apart : value t assigned a ≡ value t assigned b → ⊥

flipped_sign : (m n : ℕ) (b : Bool) → m < 2 → n < 2 → flipped m b ≡ flipped n b → m ≡ n
flipped_sign zero zero b hm hn e = refl
flipped_sign zero (suc n) true hm hn e = absurd (true≢false e)
flipped_sign zero (suc n) false hm hn e = absurd (false≢true e)
flipped_sign (suc m) zero true hm hn e = absurd (false≢true e)
flipped_sign (suc m) zero false hm hn e = absurd (true≢false e)
flipped_sign (suc m) (suc n) b hm hn e = omega arith

-- at the origin an id is true exactly when it is not complemented
pub value_origin : (t : Table) → Sound t → (id : ℕ) → Known t id → value t origin id ≡ flipped (sign id) true
value_origin t z id h = value_truth t origin id ∙ ap (flipped (sign id)) (truth_origin t z (ref id) h)

by_sign : (t : Table) → Sound t → (a b : ℕ) → Known t a → Known t b → (sign a ≡ sign b → ⊥) → Apart t a b
by_sign t z a b ha hb n = record {
  assigned = origin;
  within = λ v. omega arith;
  apart = λ e. n (flipped_sign (sign a) (sign b) true (omega arith) (omega arith) (sym (value_origin t z a ha) ∙ e ∙ value_origin t z b hb));
}

module _ (t : Table) (z : Sound t) (a b : ℕ) (ha : Known t a) (hb : Known t b) (signs : sign a ≡ sign b) (ne : a ≡ b → ⊥) where
  abbrev va : ℕ
  va = (at t (ref a)).var

  abbrev vb : ℕ
  vb = (at t (ref b)).var

  -- two ids with one sign that are not the same have other children at their first variable
  edges_differ : (v : ℕ) → v < variables → v ≡ min va vb → edges_of t v a ≡ edges_of t v b → ⊥
  unfolding edges_of
  edges_differ v hv hm = go (eqb va v) refl (eqb vb v) refl
    where
      ea : Pieces ℕ
      ea = (at t (ref a)).edges

      eb : Pieces ℕ
      eb = (at t (ref b)).edges

      -- a node has two edges or more
      wide : (x y : ℕ) → Known t x → (at t (ref x)).var ≡ v → map (under (sign x)) (at t (ref x)).edges ≡ last y → ⊥
      wide x y hx e q = omega (arith, ap count q, count_map (under (sign x)) (at t (ref x)).edges, (facts_at t z (ref x) (is_node t (ref x) (omega arith)) hx).many)

      go : (p : Bool) → eqb va v ≡ p → (q : Bool) → eqb vb v ≡ q → cond p (map (under (sign a)) ea) (last a) ≡ cond q (map (under (sign b)) eb) (last b) → ⊥
      go true p true q e =
          let x : va ≡ vb = eqb-true va v p ∙ sym (eqb-true vb v q) in
          let y = map_inj (under (sign a)) (under_inj (sign a)) ea eb (e ∙ ap (λ (s : ℕ). map (under s) eb) (sym signs)) in
          ne (omega (arith, at_inj t z (ref a) (ref b) ha hb (λ i. record { var = x i; edges = y i })))
      go true p false q e = wide a b ha (eqb-true va v p) e
      go false p true q e = wide b a hb (eqb-true vb v q) (sym e)
      go false p false q e = omega (arith, eqb-false va v p, eqb-false vb v q)

  -- the step: at a position where the children differ, they are other ids, further down
  step : (k : ℕ) → ((c d : ℕ) → Known t c → Known t d → variables ≤ k + (at t (ref c)).var → variables ≤ k + (at t (ref d)).var → (c ≡ d → ⊥) → Apart t c d)
      → (v : ℕ) → v < variables → variables ≤ suc k + v → v ≡ min va vb → Apart t a b
  step k rec v hv hk hm =
      let ka : Child t v a = (ha, omega arith) in
      let kb : Child t v b = (hb, omega arith) in
      let d = differ 0 (top_of v) (edges_of t v a) (edges_of t v b) (edges_are_kids t z v a hv ka).reduced (edges_are_kids t z v b hv kb).reduced (edges_differ v hv hm) in
      let p = d.spot in
      let ca = edge_child t z v a hv ka p in
      let cb = edge_child t z v b hv kb p in
      let i = rec (select (edges_of t v a) p) (select (edges_of t v b) p) ca.0 cb.0 (omega (arith, ca.1)) (omega (arith, cb.1)) d.apart in
      record {
        assigned = upd i.assigned v p;
        within = upd_within i.assigned v p i.within d.high;
        apart = λ e. i.apart (sym (value_edge t z v a hv ka i.assigned p) ∙ e ∙ value_edge t z v b hv kb i.assigned p);
      }

told_apart : (t : Table) → Sound t → (k a b : ℕ) → Known t a → Known t b → variables ≤ k + (at t (ref a)).var → variables ≤ k + (at t (ref b)).var → (a ≡ b → ⊥) → Apart t a b
told_apart t z zero a b ha hb ka kb ne = by_sign t z a b ha hb (λ s. ne (omega (arith, is_end t z (ref a) ha (omega arith), is_end t z (ref b) hb (omega arith))))
told_apart t z (suc k) a b ha hb ka kb ne = go (ℕ_discrete (sign a) (sign b)) (dec_lt v variables) (told_apart t z k)
  where
    v : ℕ
    v = min (at t (ref a)).var (at t (ref b)).var

    go : Dec (sign a ≡ sign b) → Dec (v < variables)
        → ((c d : ℕ) → Known t c → Known t d → variables ≤ k + (at t (ref c)).var → variables ≤ k + (at t (ref d)).var → (c ≡ d → ⊥) → Apart t c d) → Apart t a b
    go (no n) q rec = by_sign t z a b ha hb n
    go (yes s) (yes q) rec = step t z a b ha hb s ne k rec v q (omega arith) refl
    go (yes s) (no q) rec = absurd (ne (omega (arith, is_end t z (ref a) ha (omega arith), is_end t z (ref b) hb (omega arith))))

pub distinct_ids_apart : (t : Table) → Sound t → (a b : ℕ) → Known t a → Known t b → (a ≡ b → ⊥) → Apart t a b
distinct_ids_apart t z a b ha hb ne = told_apart t z variables a b ha hb (omega arith) (omega arith) ne

-- ids that say the same under every assignment within the positions are equal
pub same_value_same_id : (t : Table) → Sound t → (a b : ℕ) → Known t a → Known t b → ((α : Assignment) → Within α → value t α a ≡ value t α b) → a ≡ b
same_value_same_id t z a b ha hb h = go (ℕ_discrete a b)
  where
    go : Dec (a ≡ b) → a ≡ b
    go (yes e) = e
    go (no n) = let x = distinct_ids_apart t z a b ha hb n in absurd (x.apart (h x.assigned x.within))
