-- Facts of a sound table, node by node. Assumes nothing.
use mathlib.Core.Path.{◌≡◌, refl, sym, ◌∙◌, ap}
use mathlib.Core.Bool.{true}
use mathlib.Core.List.{[], ◌∷◌}
use Prim.Native.Nat.{ℕ, zero, suc, ◌≤◌, ◌<◌}
use native.Mathlib.Omega.{arith}
use native.Mathlib.Decide.{ℕ_discrete}
use lib.ListN.{length}
use Rattle.ids.specs.Id.{sign, ref}
use Rattle.diagram.specs.Pieces.{Pieces, select}
use Rattle.diagram.specs.Shape.{first, count, Each, Reduced}
use Rattle.diagram.specs.Table.{variables, top_of, Node, Table, at, Assignment, signed, value}
use Rattle.diagram.specs.Sound.{Child, Extends, Sound}
use Rattle.diagram.proofs.Lookup.{truth, value_truth, at_new, at_old, at_end, truth_new, truth_old, value_old}
use Rattle.diagram.proofs.Piecewise.{each_select, each_imp, select_low}

-- what a sound table t says of its ref r, whose node is nd
pub record Facts (t : Table) (r : ℕ) (nd : Node) : Type 0 where
  pub known : nd.var < variables
  pub many : 2 ≤ count nd.edges
  pub reduced : Reduced 0 (top_of nd.var) nd.edges
  pub plain : sign (first nd.edges) ≡ 0
  pub kids : Each (Child t (suc nd.var)) nd.edges
  pub earlier : (p : ℕ) → ref (select nd.edges p) < r
  pub truth_is : (α : Assignment) → truth t α r ≡ value t α (select nd.edges (α nd.var))

kids_old : (nd : Node) (t : Table) (u : ℕ) (e : Pieces ℕ) → Each (Child t u) e → Each (Child (nd ∷ t) u) e
kids_old nd t u = each_imp (Child t u) (Child (nd ∷ t) u) (λ c k. (omega (arith, k.0), rw (at_old nd t (ref c) k.0) k.1))

facts_old : (nd : Node) (t : Table) (r : ℕ) (n : Node) → r ≤ length t → Facts t r n → Facts (nd ∷ t) r n
facts_old nd t r n h f = record {
  known = f.known;
  many = f.many;
  reduced = f.reduced;
  plain = f.plain;
  kids = kids_old nd t (suc n.var) n.edges f.kids;
  earlier = f.earlier;
  truth_is = λ α. truth_old nd t α r h ∙ f.truth_is α ∙ sym (value_old nd t α (select n.edges (α n.var)) (omega (arith, f.earlier (α n.var))));
}

facts_new : (nd : Node) (t : Table) → Extends t nd → Facts (nd ∷ t) (suc (length t)) nd
facts_new nd t g =
    let k = each_select (Child t (suc nd.var)) nd.edges g.kids in
    record {
      known = g.known;
      many = g.many;
      reduced = g.reduced;
      plain = g.plain;
      kids = kids_old nd t (suc nd.var) nd.edges g.kids;
      earlier = λ p. omega (arith, (k p).0);
      truth_is = λ α. truth_new nd t α ∙ sym (value_old nd t α (select nd.edges (α nd.var)) (k (α nd.var)).0);
    }

pub facts_at : (t : Table) → Sound t → (r : ℕ) → 0 < r → r ≤ length t → Facts t r (at t r)
facts_at [] s r p h = absurd (omega arith)
facts_at (nd ∷ t) s r p h = go (ℕ_discrete r (suc (length t))) (λ l. facts_at t s.1 r p l)
  where
    go : Dec (r ≡ suc (length t)) → (r ≤ length t → Facts t r (at t r)) → Facts (nd ∷ t) r (at (nd ∷ t) r)
    go (yes e) f = rw (e, at_new nd t) (facts_new nd t s.0)
    go (no n) f =
        let l : r ≤ length t = omega arith in
        rw (at_old nd t r l) (facts_old nd t r (at t r) l (f l))

-- the child at a position of a ref's variable
pub kid_at_lem : (t : Table) → Sound t → (r p : ℕ) → 0 < r → r ≤ length t → Child t (suc (at t r).var) (select (at t r).edges p)
kid_at_lem t z r p h l = each_select (Child t (suc (at t r).var)) (at t r).edges (facts_at t z r h l).kids p

-- a ref with a variable of the order is a node's, and any other is the terminal's
pub is_node : (t : Table) (r : ℕ) → (at t r).var < variables → 0 < r
is_node t zero h = absurd (omega (arith, ap (λ (m : Node). m.var) (at_end t)))
is_node t (suc r) h = omega arith

pub is_end : (t : Table) → Sound t → (r : ℕ) → r ≤ length t → variables ≤ (at t r).var → r ≡ 0
is_end t z zero l h = refl
is_end t z (suc r) l h = absurd (omega (arith, (facts_at t z (suc r) (omega arith) l).known))

pub var_most : (t : Table) → Sound t → (r : ℕ) → r ≤ length t → (at t r).var ≤ variables
var_most t z zero h = rw (at_end t) (omega arith)
var_most t z (suc r) h = omega (arith, (facts_at t z (suc r) (omega arith) h).known)

-- two refs with one node are one ref
pub at_inj : (t : Table) → Sound t → (r s : ℕ) → r ≤ length t → s ≤ length t → at t r ≡ at t s → r ≡ s
at_inj [] z r s hr hs e = omega arith
at_inj (nd ∷ t) z r s hr hs e = go (ℕ_discrete r (suc (length t))) (ℕ_discrete s (suc (length t))) (λ k l. at_inj t z.1 r s k l)
  where
    not_new : (x y : ℕ) → x ≤ length t → y ≡ suc (length t) → at (nd ∷ t) x ≡ at (nd ∷ t) y → ⊥
    not_new x y l q w = z.0.new x l (sym (at_old nd t x l) ∙ w ∙ ap (at (nd ∷ t)) q ∙ at_new nd t)

    go : Dec (r ≡ suc (length t)) → Dec (s ≡ suc (length t)) → (r ≤ length t → s ≤ length t → at t r ≡ at t s → r ≡ s) → r ≡ s
    go (yes x) (yes y) rec = x ∙ sym y
    go (yes x) (no y) rec = absurd (not_new s r (omega arith) x (sym e))
    go (no x) (yes y) rec = absurd (not_new r s (omega arith) y e)
    go (no x) (no y) rec =
        let k : r ≤ length t = omega arith in
        let l : s ≤ length t = omega arith in
        rec k l (sym (at_old nd t r k) ∙ e ∙ at_old nd t s l)

-- the truth of a ref depends on its own variable and later ones only
pub truth_agree : (t : Table) → Sound t → (u : ℕ) (α β : Assignment) → ((w : ℕ) → u ≤ w → α w ≡ β w) → (r : ℕ) → r ≤ length t → u ≤ (at t r).var → truth t α r ≡ truth t β r
unfolding truth
truth_agree [] z u α β h r hr hu = refl
truth_agree (nd ∷ t) z u α β h r hr hu = go (ℕ_discrete r (suc (length t))) (truth_agree t z.1 u α β h)
  where
    v : ℕ
    v = nd.var

    c : ℕ
    c = select nd.edges (β v)

    k : Child t (suc v) c
    k = each_select (Child t (suc v)) nd.edges z.0.kids (β v)

    go : Dec (r ≡ suc (length t)) → ((r : ℕ) → r ≤ length t → u ≤ (at t r).var → truth t α r ≡ truth t β r) → truth (nd ∷ t) α r ≡ truth (nd ∷ t) β r
    go (yes x) rec =
        let l : u ≤ v = rw (x, at_new nd t) at hu in
        rw (x, truth_new nd t α, truth_new nd t β, h v l) (value_truth t α c ∙ ap (signed c) (rec (ref c) k.0 (omega (arith, k.1))) ∙ sym (value_truth t β c))
    go (no x) rec =
        let l : r ≤ length t = omega arith in
        rw (truth_old nd t α r l, truth_old nd t β r l) (rec r l (rw (at_old nd t r l) at hu))

pub value_agree : (t : Table) → Sound t → (u : ℕ) (α β : Assignment) → ((w : ℕ) → u ≤ w → α w ≡ β w) → (id : ℕ) → Child t u id → value t α id ≡ value t β id
value_agree t z u α β h id k = value_truth t α id ∙ ap (signed id) (truth_agree t z u α β h (ref id) k.0 k.1) ∙ sym (value_truth t β id)

-- with every variable at position 0 each ref is true
abbrev pub origin : Assignment
origin v = 0

pub truth_origin : (t : Table) → Sound t → (r : ℕ) → r ≤ length t → truth t origin r ≡ true
unfolding truth
truth_origin [] z r hr = refl
truth_origin (nd ∷ t) z r hr = go (ℕ_discrete r (suc (length t))) (truth_origin t z.1)
  where
    s : select nd.edges 0 ≡ first nd.edges
    s = select_low 0 (top_of nd.var) nd.edges z.0.reduced

    k : Child t (suc nd.var) (select nd.edges 0)
    k = each_select (Child t (suc nd.var)) nd.edges z.0.kids 0

    go : Dec (r ≡ suc (length t)) → ((r : ℕ) → r ≤ length t → truth t origin r ≡ true) → truth (nd ∷ t) origin r ≡ true
    go (yes x) rec = rw (x, truth_new nd t origin, s, value_truth t origin (first nd.edges), z.0.plain) (rec (ref (first nd.edges)) (rw s at k.0))
    go (no x) rec =
        let l : r ≤ length t = omega arith in
        rw (truth_old nd t origin r l) (rec r l)
