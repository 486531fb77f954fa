-- Restriction, narrowing and widening have one law: the id that stands where the earlier variables have been read has its edges
-- changed, and the answer says what those say. Assumes nothing.
use mathlib.Core.Path.{◌≡◌, refl, sym, ◌∙◌, ap}
use mathlib.Core.Bool.{Bool, true, false, cond}
use Prim.Native.Nat.{ℕ, zero, suc, ◌+◌, ◌≤◌, ◌<◌}
use native.Mathlib.Omega.{arith}
use borrow.Author.Tests.{ltb-true, ltb-false}
use Rattle.ids.specs.Id.{ref}
use Rattle.diagram.specs.Pieces.{Pieces, select}
use Rattle.diagram.specs.Shape.{Each, Rising}
use Rattle.diagram.specs.Table.{variables, top_of, Table, at, Assignment, value, Continues}
use Rattle.diagram.specs.Cofactor.{edges_of, upd}
use Rattle.diagram.specs.Sound.{Known, Child, Sound}
use Rattle.diagram.proofs.Piecewise.{each_select}
use Rattle.diagram.proofs.Continuing.{continues_at, continues_value, continues_child}
use Rattle.diagram.proofs.Cofactors.{edges_are_kids, edges_rising, edge_child, value_edge, upd_other, continues_edges}
use Rattle.algebra.specs.Making.{create_node}
use Rattle.algebra.specs.Changing.{is_before, change_step, change}
use Rattle.algebra.proofs.Made.{Made, made_same_meaning, weaken}
use Rattle.algebra.proofs.Making.{created}
use Rattle.algebra.proofs.Walking.{created_over}

pub before_yes : (t : Table) (v id : ℕ) → is_before t v id ≡ true → (at t (ref id)).var < v
unfolding is_before
before_yes t v id e = omega (arith, ltb-true (at t (ref id)).var v e)

pub before_no : (t : Table) (v id : ℕ) → is_before t v id ≡ false → v ≤ (at t (ref id)).var
unfolding is_before
before_no t v id e = omega (arith, ltb-false (at t (ref id)).var v e)

pub continues_before : {t s : Table} → Continues t s → (v id : ℕ) → Known t id → is_before s v id ≡ is_before t v id
unfolding is_before
continues_before g v id k = rw (continues_at g (ref id) k)

-- the id that an id comes to when the variables before v are read
unfoldable pub descend : ℕ → Table → ℕ → Assignment → ℕ → ℕ
descend zero t v α id = id
descend (suc n) t v α id = cond (is_before t v id) (descend n t v α (select (edges_of t (at t (ref id)).var id) (α (at t (ref id)).var))) id

-- assignments that agree before v
abbrev pub Before : ℕ → Assignment → Assignment → Type 0
Before v α β = (i : ℕ) → i < v → β i ≡ α i

-- it tests nothing before v,
pub descend_child : (n : ℕ) (t : Table) → Sound t → (v : ℕ) → v < variables → (α : Assignment) (w id : ℕ) → Child t w id → v ≤ w + n → Child t v (descend n t v α id)
unfolding descend
descend_child zero t z v hv α w id k h = (k.0, omega (arith, k.1))
descend_child (suc n) t z v hv α w id k h = go (is_before t v id) refl (descend_child n t z v hv α (suc u) c)
  where
    u : ℕ
    u = (at t (ref id)).var

    c : ℕ
    c = select (edges_of t u id) (α u)

    go : (b : Bool) → is_before t v id ≡ b → (Child t (suc u) c → v ≤ suc u + n → Child t v (descend n t v α c)) → Child t v (cond b (descend n t v α c) id)
    go true e rec = rec (edge_child t z u id (omega (arith, before_yes t v id e)) (k.0, omega arith) (α u)) (omega (arith, k.1))
    go false e rec = (k.0, before_no t v id e)

-- says what the id says while those variables stay as they are,
pub descend_value : (n : ℕ) (t : Table) → Sound t → (v : ℕ) → v < variables → (α β : Assignment) → Before v α β → (id : ℕ) → Known t id → value t β (descend n t v α id) ≡ value t β id
unfolding descend
descend_value zero t z v hv α β a id k = refl
descend_value (suc n) t z v hv α β a id k = go (is_before t v id) refl (descend_value n t z v hv α β a c)
  where
    u : ℕ
    u = (at t (ref id)).var

    c : ℕ
    c = select (edges_of t u id) (α u)

    go : (b : Bool) → is_before t v id ≡ b → (Known t c → value t β (descend n t v α c) ≡ value t β c) → value t β (cond b (descend n t v α c) id) ≡ value t β id
    go true e rec =
        let hu : u < variables = omega (arith, before_yes t v id e) in
        rec (edge_child t z u id hu (k, omega arith) (α u)).0 ∙ ap (λ (p : ℕ). value t β (select (edges_of t u id) p)) (sym (a u (before_yes t v id e))) ∙ sym ((edges_are_kids t z u id hu (k, omega arith)).value_is β)
    go false e rec = refl

-- and is the same in a table that continues this one
continues_descend : (n : ℕ) {t s : Table} → Sound t → Continues t s → (v : ℕ) → v < variables → (α : Assignment) (id : ℕ) → Known t id → descend n s v α id ≡ descend n t v α id
unfolding descend
continues_descend zero z g v hv α id k = refl
continues_descend (suc n) {t} {s} z g v hv α id k = rw (continues_before g v id k, continues_at g (ref id) k, continues_edges g u id k) (go (is_before t v id) refl (continues_descend n z g v hv α c))
  where
    u : ℕ
    u = (at t (ref id)).var

    c : ℕ
    c = select (edges_of t u id) (α u)

    go : (b : Bool) → is_before t v id ≡ b → (Known t c → descend n s v α c ≡ descend n t v α c) → cond b (descend n s v α c) id ≡ cond b (descend n t v α c) id
    go true e rec = rec (edge_child t z u id (omega (arith, before_yes t v id e)) (k, omega arith) (α u)).0
    go false e rec = refl

-- its edges at v, changed by g; at a position, what the old edges say there is what the id says with v there
module _ (n : ℕ) (t : Table) (z : Sound t) (v : ℕ) (hv : v < variables) (w id : ℕ) (k : Child t w id) (h : v ≤ w + n) (α : Assignment) where
  abbrev pub bottom : Pieces ℕ
  bottom = edges_of t v (descend n t v α id)

  pub bottom_child : Child t v (descend n t v α id)
  bottom_child = descend_child n t z v hv α w id k h

  pub bottom_rising : Rising 0 (top_of v) bottom
  bottom_rising = edges_rising t z v (descend n t v α id) hv bottom_child

  pub bottom_at : (p : ℕ) → value t α (select bottom p) ≡ value t (upd α v p) id
  bottom_at p = sym (value_edge t z v (descend n t v α id) hv bottom_child α p) ∙ descend_value n t z v hv α (upd α v p) (λ i l. upd_other α v p i (omega arith)) id k.0

  pub bottom_here : value t α (select bottom (α v)) ≡ value t α id
  bottom_here = sym ((edges_are_kids t z v (descend n t v α id) hv bottom_child).value_is α) ∙ descend_value n t z v hv α α (λ i l. refl) id k.0

-- the change by any g that keeps cuts rising and children later than v
pub record Changes (v : ℕ) (g : Pieces ℕ → Pieces ℕ) : Type 0 where
  pub rising : (e : Pieces ℕ) → Rising 0 (top_of v) e → Rising 0 (top_of v) (g e)
  pub kids : (t : Table) (e : Pieces ℕ) → Each (Child t (suc v)) e → Each (Child t (suc v)) (g e)

module _ (v : ℕ) (hv : v < variables) (g : Pieces ℕ → Pieces ℕ) (ch : Changes v g) where
  -- what the change by n steps has to say: what g makes of the edges where the id comes to
  abbrev pub means : ℕ → Table → ℕ → Assignment → Bool
  means n t id α = value t α (select (g (edges_of t v (descend n t v α id))) (α v))

  -- and it is the same in a table that continues this one
  pub means_continues : (n : ℕ) {t s : Table} → Sound t → Continues t s → (w id : ℕ) → Child t w id → v ≤ w + n → (α : Assignment) → means n s id α ≡ means n t id α
  means_continues n {t} {s} z c w id k h α =
      let d = descend n t v α id in
      let kd = descend_child n t z v hv α w id k h in
      ap (λ (i : ℕ). value s α (select (g (edges_of s v i)) (α v))) (continues_descend n z c v hv α id k.0) ∙ ap (λ (e : Pieces ℕ). value s α (select (g e) (α v))) (continues_edges c v d kd.0)
      ∙ continues_value c α (select (g (edges_of t v d)) (α v)) (each_select (Child t (suc v)) (g (edges_of t v d)) (ch.kids t (edges_of t v d) (edges_are_kids t z v d hv kd).kids) (α v)).0

  here_made : (t : Table) → Sound t → (id : ℕ) → Child t v id → Made t v (λ α. value t α (select (g (edges_of t v id)) (α v))) (create_node t v (g (edges_of t v id)))
  here_made t z id k =
      (created t z v hv (g (edges_of t v id)) (ch.rising (edges_of t v id) (edges_rising t z v id hv k)) (ch.kids t (edges_of t v id) (edges_are_kids t z v id hv k).kids)).made

  pub change_makes_meaning : (n : ℕ) (t : Table) → Sound t → (w id : ℕ) → w ≤ v → Child t w id → v ≤ w + n → Made t w (means n t id) (change n g t v id)
  unfolding change change_step descend
  change_makes_meaning zero t z w id l k h = weaken t w v _ _ l (here_made t z id (k.0, omega (arith, k.1)))
  change_makes_meaning (suc n) t z w id l k h = go (is_before t v id) refl (λ s y i q. change_makes_meaning n s y (suc u) i q)
    where
      u : ℕ
      u = (at t (ref id)).var

      f : Table → ℕ → Table × ℕ
      f s i = change n g s v i

      go : (a : Bool) → is_before t v id ≡ a → ((s : Table) → Sound s → (i : ℕ) → suc u ≤ v → Child s (suc u) i → v ≤ suc u + n → Made s (suc u) (means n s i) (f s i))
          → Made t w (λ α. value t α (select (g (edges_of t v (cond a (descend n t v α (select (edges_of t u id) (α u))) id))) (α v))) (change_step a f g t u v id)
      go true x rec =
          let lt : u < v = before_yes t v id x in
          let ku : Child t u id = (k.0, omega arith) in
          weaken t w u _ _ k.1 (created_over t z f u (omega arith) (Child t (suc u)) (means n t)
          (λ s zs c i q. made_same_meaning (rec s zs i lt (continues_child c (suc u) i q) (omega (arith, k.1))) (means_continues n z c (suc u) i q (omega (arith, k.1))))
          (edges_of t u id) (edges_rising t z u id (omega arith) ku) (edges_are_kids t z u id (omega arith) ku).kids _)
      go false x rec = weaken t w v _ _ l (here_made t z id (k.0, before_no t v id x))
