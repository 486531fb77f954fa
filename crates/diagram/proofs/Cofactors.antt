-- The children of an id at a variable say what the id says. Assumes nothing.
use mathlib.Core.Path.{◌≡◌, refl, sym, ◌∙◌, ap}
use mathlib.Core.Bool.{Bool, true, false, cond}
use Prim.Native.Nat.{ℕ, suc, ◌≤◌, ◌<◌}
use native.Mathlib.Omega.{arith}
use native.Mathlib.Decide.{ℕ_discrete}
use lib.Dec.{ltb, eqb}
use borrow.Author.Tests.{eqb-true, eq-eqb, ne_eqb}
use Rattle.ids.specs.Id.{sign, ref, under}
use Rattle.ids.proofs.Signs.{under_inj, ref_under}
use Rattle.diagram.specs.Pieces.{Pieces, last, cut, select}
use Rattle.diagram.specs.Shape.{first, count, Each, Rising, Reduced}
use Rattle.diagram.specs.Table.{variables, top_of, Table, at, Assignment, flipped, value, Continues}
use Rattle.diagram.specs.Cofactor.{map, edges_of, upd, Within}
use Rattle.diagram.specs.Sound.{Known, Child, Sound}
use Rattle.diagram.proofs.Lookup.{value_truth, value_under}
use Rattle.diagram.proofs.Piecewise.{count_pos, each_select, reduced_rising}
use Rattle.diagram.proofs.Facts.{facts_at, is_node, value_agree}
use Rattle.diagram.proofs.Continuing.{continues_at}

module _ {A B : Type 0} (f : A → B) where
  pub select_map : (e : Pieces A) (p : ℕ) → select (map f e) p ≡ f (select e p)
  unfolding map
  select_map (last a) p = refl
  select_map (cut a k e) p = go (ltb p k) (select_map e p)
    where
      go : (b : Bool) → select (map f e) p ≡ f (select e p) → cond b (f a) (select (map f e) p) ≡ f (cond b a (select e p))
      go true i = refl
      go false i = i

  pub first_map : (e : Pieces A) → first (map f e) ≡ f (first e)
  unfolding map
  first_map (last a) = refl
  first_map (cut a k e) = refl

  pub count_map : (e : Pieces A) → count (map f e) ≡ count e
  unfolding map
  count_map (last a) = refl
  count_map (cut a k e) = ap suc (count_map e)

  pub rising_map : (b t : ℕ) (e : Pieces A) → Rising b t e → Rising b t (map f e)
  unfolding map
  rising_map b t (last a) h = h
  rising_map b t (cut a k e) h = (h.0, h.1, rising_map k t e h.2)

  pub reduced_map : ((x y : A) → f x ≡ f y → x ≡ y) → (b t : ℕ) (e : Pieces A) → Reduced b t e → Reduced b t (map f e)
  unfolding map
  reduced_map inj b t (last a) h = h
  reduced_map inj b t (cut a k e) h = (h.0, h.1, λ q. h.2 (inj a (first e) (q ∙ first_map e)), reduced_map inj k t e h.3)

  pub each_map : (P : A → Type 0) (Q : B → Type 0) → ((a : A) → P a → Q (f a)) → (e : Pieces A) → Each P e → Each Q (map f e)
  unfolding map
  each_map P Q g (last a) h = g a h
  each_map P Q g (cut a k e) h = (g a h.0, each_map P Q g e h.1)

pub map_inj : (f : ℕ → ℕ) → ((x y : ℕ) → f x ≡ f y → x ≡ y) → (e g : Pieces ℕ) → map f e ≡ map f g → e ≡ g
unfolding map
map_inj f inj (last a) (last b) q = ap last (inj a b (ap first q))
map_inj f inj (last a) (cut b l g) q = absurd (omega (arith, ap count q, count_pos (map f g)))
map_inj f inj (cut a k e) (last b) q = absurd (omega (arith, ap count q, count_pos (map f e)))
map_inj f inj (cut a k e) (cut b l g) q =
    let x : f a ≡ f b = cc in
    let y : k ≡ l = cc in
    let z : map f e ≡ map f g = cc in
    let i = inj a b x in
    let j = map_inj f inj e g z in
    λ n. cut (i n) (y n) (j n)

pub child_under : (t : Table) (u s c : ℕ) → Child t u c → Child t u (under s c)
child_under t u s c k = rw (ref_under s c) k

-- assignments
pub upd_same : (α : Assignment) (v p : ℕ) → upd α v p v ≡ p
upd_same α v p = rw (eq-eqb v v refl)

pub upd_other : (α : Assignment) (v p w : ℕ) → (w ≡ v → ⊥) → upd α v p w ≡ α w
upd_other α v p w h = rw (ne_eqb w v h)

pub upd_later : (α : Assignment) (v p w : ℕ) → suc v ≤ w → upd α v p w ≡ α w
upd_later α v p w h = upd_other α v p w (omega arith)

pub upd_within : (α : Assignment) (v p : ℕ) → Within α → p ≤ top_of v → Within (upd α v p)
upd_within α v p h k w = go (eqb w v) refl
  where
    go : (b : Bool) → eqb w v ≡ b → cond b p (α w) ≤ top_of w
    go true q = rw (eqb-true w v q) k
    go false q = h w

-- the children e of an id at the variable v
pub record Kids (t : Table) (v id : ℕ) (e : Pieces ℕ) : Type 0 where
  pub reduced : Reduced 0 (top_of v) e
  pub kids : Each (Child t (suc v)) e
  pub value_is : (α : Assignment) → value t α id ≡ value t α (select e (α v))

-- they are its own, each with the sign of the id, at the variable that its node tests, and else the id itself
pub edge_own : (t : Table) (v id : ℕ) → (at t (ref id)).var ≡ v → edges_of t v id ≡ map (under (sign id)) (at t (ref id)).edges
unfolding edges_of
edge_own t v id e = rw (eq-eqb (at t (ref id)).var v e)

pub edge_other : (t : Table) (v id : ℕ) → ((at t (ref id)).var ≡ v → ⊥) → edges_of t v id ≡ last id
unfolding edges_of
edge_other t v id n = rw (ne_eqb (at t (ref id)).var v n)

pub edges_are_kids : (t : Table) → Sound t → (v id : ℕ) → v < variables → Child t v id → Kids t v id (edges_of t v id)
edges_are_kids t z v id hv k = go (ℕ_discrete (at t (ref id)).var v)
  where
    go : Dec ((at t (ref id)).var ≡ v) → Kids t v id (edges_of t v id)
    go (yes y) =
        let s = sign id in
        let e = (at t (ref id)).edges in
        let f = facts_at t z (ref id) (is_node t (ref id) (omega arith)) k.0 in
        rw (edge_own t v id y) (record {
          reduced = reduced_map (under s) (under_inj s) 0 (top_of v) e (rw y at f.reduced);
          kids = each_map (under s) (Child t (suc v)) (Child t (suc v)) (child_under t (suc v) s) e (rw y at f.kids);
          value_is = λ α. value_truth t α id ∙ ap (flipped s) (rw y at (f.truth_is α)) ∙ sym (value_under t α s (select e (α v))) ∙ sym (ap (value t α) (select_map (under s) e (α v)));
        })
    go (no n) = rw (edge_other t v id n) (record { reduced = omega arith; kids = (k.0, omega arith); value_is = λ α. refl })

module _ (t : Table) (z : Sound t) (v id : ℕ) (hv : v < variables) (k : Child t v id) where
  pub edges_rising : Rising 0 (top_of v) (edges_of t v id)
  edges_rising = reduced_rising 0 (top_of v) (edges_of t v id) (edges_are_kids t z v id hv k).reduced

  pub edge_child : (p : ℕ) → Child t (suc v) (select (edges_of t v id) p)
  edge_child p = each_select (Child t (suc v)) (edges_of t v id) (edges_are_kids t z v id hv k).kids p

  -- with the variable at a position, the id says what its child there says
  pub value_edge : (α : Assignment) (p : ℕ) → value t (upd α v p) id ≡ value t α (select (edges_of t v id) p)
  value_edge α p =
      (edges_are_kids t z v id hv k).value_is (upd α v p) ∙ ap (λ (i : ℕ). value t (upd α v p) (select (edges_of t v id) i)) (upd_same α v p)
      ∙ value_agree t z (suc v) (upd α v p) α (upd_later α v p) (select (edges_of t v id) p) (edge_child p)

-- older ids have the same children in a table that continues this one
pub continues_edges : {t s : Table} → Continues t s → (v id : ℕ) → Known t id → edges_of s v id ≡ edges_of t v id
unfolding edges_of
continues_edges g v id h = rw (continues_at g (ref id) h)

pub select_own : (t : Table) (v id : ℕ) → (at t (ref id)).var ≡ v → (p : ℕ) → select (edges_of t v id) p ≡ under (sign id) (select (at t (ref id)).edges p)
select_own t v id e p = ap (λ (x : Pieces ℕ). select x p) (edge_own t v id e) ∙ select_map (under (sign id)) (at t (ref id)).edges p

pub count_own : (t : Table) (v id : ℕ) → (at t (ref id)).var ≡ v → count (edges_of t v id) ≡ count (at t (ref id)).edges
count_own t v id e = ap count (edge_own t v id e) ∙ count_map (under (sign id)) (at t (ref id)).edges
