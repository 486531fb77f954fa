-- Restriction, narrowing and widening, each from the one law. Assumes nothing.
use mathlib.Core.Path.{◌≡◌, refl, sym, ◌∙◌, ap}
use mathlib.Core.Bool.{Bool, true, false, cond, ◌&&◌, and-true, and-false}
use Prim.Native.Nat.{ℕ, suc, ◌≤◌, ◌<◌, min, max}
use native.Mathlib.Omega.{arith}
use lib.Dec.{ltb, leb}
use borrow.Author.Tests.{ltb-true, ltb-false, leb-true, leb-false}
use Rattle.diagram.specs.Pieces.{Pieces, last, cut, select}
use Rattle.diagram.specs.Shape.{Each, Rising}
use Rattle.diagram.specs.Table.{variables, top_of, Table, Assignment, value}
use Rattle.diagram.specs.Cofactor.{upd}
use Rattle.diagram.specs.Sound.{Known, Child, Sound}
use Rattle.diagram.proofs.Lookup.{at_end, value_false}
use Rattle.diagram.proofs.Piecewise.{select_left, select_right, select_before, rising_down, each_select}
use Rattle.diagram.proofs.Cofactors.{select_map, rising_map, each_map}
use Rattle.algebra.specs.Overlay.{above, overlay}
use Rattle.algebra.specs.Conditions.{between}
use Rattle.algebra.specs.Changing.{change, fixed, cut_above, narrowed, keep, widened}
use Rattle.algebra.proofs.Overlays.{select_above, rising_above, each_above, select_overlay, rising_overlay, each_overlay}
use Rattle.algebra.proofs.Made.{Made, made_same_meaning}
use Rattle.algebra.proofs.Conditioning.{rising_between, each_any}
use Rattle.algebra.proofs.Descending.{bottom, bottom_rising, bottom_at, bottom_here, Changes, change_makes_meaning}

-- restriction is a change
pub fixed_changes : (v p : ℕ) → Changes v (fixed p)
fixed_changes v p = record { rising = λ e h. omega arith; kids = λ t e h. each_select (Child t (suc v)) e h p }

module _ (t : Table) (z : Sound t) (v : ℕ) (hv : v < variables) (id : ℕ) (k : Known t id) where
  abbrev whole : Child t 0 id
  whole = (k, omega arith)

  -- a change by which position p gets what position c p had
  moved : (g : Pieces ℕ → Pieces ℕ) → Changes v g → (c : ℕ → ℕ) → ((e : Pieces ℕ) → Rising 0 (top_of v) e → (p : ℕ) → select (g e) p ≡ select e (c p))
      → Made t 0 (λ α. value t (upd α v (c (α v))) id) (change variables g t v id)
  moved g ch c h =
      made_same_meaning (change_makes_meaning v hv g ch variables t z 0 id (omega arith) whole (omega arith))
      (λ α. ap (value t α) (h (bottom variables t z v hv 0 id whole (omega arith) α) (bottom_rising variables t z v hv 0 id whole (omega arith) α) (α v))
      ∙ bottom_at variables t z v hv 0 id whole (omega arith) α (c (α v)))

  -- restriction
  pub fixed_made : (p : ℕ) → Made t 0 (λ α. value t (upd α v p) id) (change variables (fixed p) t v id)
  fixed_made p = moved (fixed p) (fixed_changes v p) (λ q. p) (λ e h q. refl)

-- narrowing
select_cut_above : (b t hi : ℕ) (e : Pieces ℕ) (p : ℕ) → Rising b t e → select (cut_above hi e) p ≡ select e (min p hi)
unfolding cut_above
select_cut_above b t hi (last c) p r = refl
select_cut_above b t hi (cut c k e) p r = go (leb k hi) refl (ltb p k) refl (select_cut_above k t hi e p r.2)
  where
    go : (x : Bool) → leb k hi ≡ x → (y : Bool) → ltb p k ≡ y → select (cut_above hi e) p ≡ select e (min p hi) → select (cond x (cut c k (cut_above hi e)) (last c)) p ≡ select (cut c k e) (min p hi)
    go true ex true ey i = select_left c k (cut_above hi e) p (ltb-true p k ey) ∙ sym (select_left c k e (min p hi) (omega (arith, ltb-true p k ey)))
    go true ex false ey i = select_right c k (cut_above hi e) p (ltb-false p k ey) ∙ i ∙ sym (select_right c k e (min p hi) (omega (arith, ltb-false p k ey, leb-true k hi ex)))
    go false ex y ey i = sym (select_left c k e (min p hi) (omega (arith, leb-false k hi ex)))

rising_cut_above : (b t hi : ℕ) (e : Pieces ℕ) → Rising b t e → Rising b t (cut_above hi e)
unfolding cut_above
rising_cut_above b t hi (last c) r = r
rising_cut_above b t hi (cut c k e) r = go (leb k hi) (rising_cut_above k t hi e r.2)
  where
    go : (x : Bool) → Rising k t (cut_above hi e) → Rising b t (cond x (cut c k (cut_above hi e)) (last c))
    go true i = (r.0, r.1, i)
    go false i = omega arith

each_cut_above : (P : ℕ → Type 0) (hi : ℕ) (e : Pieces ℕ) → Each P e → Each P (cut_above hi e)
unfolding cut_above
each_cut_above P hi (last c) h = h
each_cut_above P hi (cut c k e) h = go (leb k hi) (each_cut_above P hi e h.1)
  where
    go : (x : Bool) → Each P (cut_above hi e) → Each P (cond x (cut c k (cut_above hi e)) (last c))
    go true i = (h.0, i)
    go false i = h.0

module _ (v lo hi : ℕ) (l : lo ≤ hi) (m : hi ≤ top_of v) where
  pub narrowed_changes : Changes v (narrowed lo hi)
  narrowed_changes = record {
    rising = λ e r. rising_cut_above 0 (top_of v) hi (above lo e) (rising_down 0 lo (top_of v) (above lo e) (omega arith) (rising_above 0 (top_of v) lo e (omega arith) r));
    kids = λ t e k. each_cut_above (Child t (suc v)) hi (above lo e) (each_above (Child t (suc v)) lo e k);
  }

  select_low : (e : Pieces ℕ) → Rising 0 (top_of v) e → (q : ℕ) → select (above lo e) q ≡ select e (max lo q)
  select_low e r q = go (ltb q lo) refl
    where
      go : (b : Bool) → ltb q lo ≡ b → select (above lo e) q ≡ select e (max lo q)
      go true x =
          let d : max lo q ≡ lo = omega (arith, ltb-true q lo x) in
          let ra = rising_above 0 (top_of v) lo e (omega arith) r in
          select_before lo (top_of v) (above lo e) q ra (omega (arith, ltb-true q lo x)) ∙ sym (select_before lo (top_of v) (above lo e) lo ra (omega arith)) ∙ select_above lo e lo (omega arith) ∙ ap (select e) (sym d)
      go false x =
          let d : max lo q ≡ q = omega (arith, ltb-false q lo x) in
          select_above lo e q (ltb-false q lo x) ∙ ap (select e) (sym d)

  select_narrowed : (e : Pieces ℕ) → Rising 0 (top_of v) e → (p : ℕ) → select (narrowed lo hi e) p ≡ select e (max lo (min p hi))
  select_narrowed e r p = select_cut_above lo (top_of v) hi (above lo e) p (rising_above 0 (top_of v) lo e (omega arith) r) ∙ select_low e r (min p hi)

  pub narrowed_made : (t : Table) → Sound t → v < variables → (id : ℕ) → Known t id → Made t 0 (λ α. value t (upd α v (max lo (min (α v) hi))) id) (change variables (narrowed lo hi) t v id)
  narrowed_made t z hv id k = moved t z v hv id k (narrowed lo hi) narrowed_changes (λ p. max lo (min p hi)) select_narrowed

-- widening
module _ (v lo hi : ℕ) (l : lo ≤ top_of v) (hv : v < variables) where
  abbrev range : Pieces Bool
  range = between lo hi (top_of v)

  pub widened_changes : Changes v (widened lo hi (top_of v))
  widened_changes = record {
    rising = λ e r. rising_map keep 0 (top_of v) (overlay e range) (rising_overlay 0 (top_of v) e range r (rising_between lo hi (top_of v) l));
    kids = λ t e k. each_map keep (λ x. Child t (suc v) x.0 × Unit {0}) (Child t (suc v)) (λ x y. kept t x.0 x.1 y.0) (overlay e range) (each_overlay (Child t (suc v)) (λ b. Unit {0}) e range k (each_any range));
  }
    where
      kept : (t : Table) (c : ℕ) (b : Bool) → Child t (suc v) c → Child t (suc v) (cond b c 1)
      kept t c true k = k
      kept t c false k = (omega arith, rw (at_end t) hv)

  value_keep : (t : Table) (α : Assignment) (c : ℕ) (b : Bool) → value t α (cond b c 1) ≡ (value t α c && b)
  value_keep t α c true = sym (and-true (value t α c))
  value_keep t α c false = value_false t α 1 refl ∙ sym (and-false (value t α c))

  value_widened : (t : Table) (α : Assignment) (e : Pieces ℕ) (p : ℕ) → value t α (select (widened lo hi (top_of v) e) p) ≡ (value t α (select e p) && select range p)
  value_widened t α e p = ap (value t α) (select_map keep (overlay e range) p ∙ ap keep (select_overlay e range p)) ∙ value_keep t α (select e p) (select range p)

  pub widened_made : (t : Table) → Sound t → (id : ℕ) → Known t id → Made t 0 (λ α. value t α id && select (between lo hi (top_of v)) (α v)) (change variables (widened lo hi (top_of v)) t v id)
  widened_made t z id k =
      let w : Child t 0 id = (k, omega arith) in
      made_same_meaning (change_makes_meaning v hv (widened lo hi (top_of v)) widened_changes variables t z 0 id (omega arith) w (omega arith))
      (λ α. value_widened t α (bottom variables t z v hv 0 id w (omega arith) α) (α v) ∙ ap (λ (b : Bool). b && select range (α v)) (bottom_here variables t z v hv 0 id w (omega arith) α))
