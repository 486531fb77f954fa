-- What the proofs of the conditions hand their facts to: a node that can be made, and what is wanted of it. Assumes nothing.
use mathlib.Core.Path.{◌≡◌, refl, sym, ◌∙◌, ap, subst}
use mathlib.Core.Bool.{true, false}
use mathlib.Core.List.{List}
use Prim.Native.Nat.{ℕ, ◌≤◌, ◌<◌}
use native.Mathlib.Omega.{arith}
use lib.IntN.{ℤ}
use mir.Syntax.{w32}
use mir.Val.{to_z, of_z, SFits}
use mir.ValLaws.{to_z-of_z}
use Rattle.ids.specs.Id.{flip}
use Rattle.ids.specs.declared.NodeId.{NodeId}
use Rattle.ranges.specs.Line.{top}
use Rattle.ranges.specs.declared.bounds.Bound.{Bound}
use Rattle.ranges.specs.declared.bounds.Comparison.{Comparison}
use Rattle.ranges.specs.declared.spans.Range.{Range}
use Rattle.ranges.specs.declared.spans.Compared.{Compared}
use Rattle.ranges.specs.Ending.{Bounded, Compares}
use Rattle.diagram.specs.Shape.{Reduced}
use Rattle.diagram.specs.Table.{first_boolean, top_of, Table}
use Rattle.diagram.specs.Cofactor.{map}
use Rattle.diagram.proofs.Readings.{range_top}
use Rattle.algebra.specs.Making.{settle, create_node}
use Rattle.algebra.specs.Conditions.{between, terminal, from_range, comparison}
use Rattle.table.proofs.Laws.{not_false_and_true}
use Rattle.making.specs.declared.edges.Edges as built
use Rattle.table.specs.declared.lent.Used.{Used}
use Rattle.making.specs.Made.{Made}
use Rattle.making.specs.Building.{Building, pieces_of}
use Rattle.making.specs.Outcome.{Creates, Buildable}
use Rattle.conditions.proofs.Terminals.{reduced_between, terminals_buildable, terminals_settle}
use Rattle.table.specs.Layout.{Store}

-- The edges of a range of positions, at a range variable: its top is that of the line.
module _ (t : Table) {v : ℕ} (hv : v < first_boolean) {es : built.Edges} (lo hi : ℕ) (b : Building es × (pieces_of es ≡ map terminal (between lo hi top))) (l : lo ≤ top) where
  same : pieces_of es ≡ map terminal (between lo hi (top_of v))
  same = b.1 ∙ ap (λ (n : ℕ). map terminal (between lo hi n)) (sym (range_top v hv))

  reduced : Reduced 0 (top_of v) (between lo hi (top_of v))
  reduced = reduced_between lo hi (top_of v) (omega (arith, range_top v hv))

  pub range_buildable : Buildable t v es
  range_buildable = terminals_buildable t v (omega arith) es b.0 (between lo hi (top_of v)) same reduced

  pub range_settles : settle t v (pieces_of es) ≡ create_node t v (map terminal (between lo hi (top_of v)))
  range_settles = terminals_settle t v (omega arith) es b.0 (between lo hi (top_of v)) same reduced

-- The positions between two bounds, and those of a comparison.
pub range_wanted : (t : Table) (v : ℕ) {lower upper : Bound} {r : Range} → Bounded lower upper r → create_node t v (map terminal (between r.first r.last (top_of v))) ≡ from_range t v lower upper
unfolding from_range
range_wanted t v b = rw (b.first, b.last)

-- The code hands a key on as 32 bits.
pub key_handed : {op : Comparison} {key : ℤ} {c : Compared} → SFits w32 key → Compares op (to_z w32 (of_z w32 key)) c → Compares op key c
key_handed {key = key} f k = rw (to_z-of_z w32 key f) at k

module _ {h : Used} {st : Store} {index : List ℕ} {st' : Store} {index' : List ℕ} where
  -- What is made under one name is made under another.
  pub creates_equal_want : {want other : Table × ℕ} {r : Made} → Creates h want r st index st' index' → want ≡ other → Creates h other r st index st' index'
  creates_equal_want {r = r} p e = subst (λ (w : Table × ℕ). Creates h w r st index st' index') e p

  module _ (t : Table) (v : ℕ) {op : Comparison} {key : ℤ} {c : Compared} (k : Compares op key c) {r : Made} (p : Creates h (create_node t v (map terminal (between c.range.first c.range.last (top_of v)))) r st index st' index') where
    -- A comparison that holds inside its range is that range,
    pub inside_wanted : c.outside ≡ false → Creates h (comparison t v op key) r st index st' index'
    unfolding comparison
    inside_wanted e = let o = sym k.side ∙ e in rw o (creates_equal_want p (range_wanted t v k.between))

    -- != is it flipped,
    pub outside_wanted : c.outside ≡ true → r.ok ≡ true → (id : NodeId) → id.0 ≡ flip r.id.0 → Creates h (comparison t v op key) (record { ok = true; id = id; used = r.used }) st index st' index'
    unfolding comparison
    outside_wanted e y id q =
        let o = sym k.side ∙ e in
        let w = (creates_equal_want p (range_wanted t v k.between)).outcome in
        rw o (record { outcome = record { lent = w.lent; stays = w.stays; table = λ x. w.table y; id = λ x. q ∙ ap flip (w.id y); full = λ x. absurd (not_false_and_true x refl) }; untouched = λ x. absurd (not_false_and_true x refl) })

    -- and where there is no room for it there is none for either.
    pub full_wanted : r.ok ≡ false → Creates h (comparison t v op key) r st index st' index'
    unfolding comparison
    full_wanted n =
        let w = creates_equal_want p (range_wanted t v k.between) in
        record { outcome = record { lent = w.outcome.lent; stays = w.outcome.stays; table = λ x. absurd (not_false_and_true n x); id = λ x. absurd (not_false_and_true n x); full = w.outcome.full }; untouched = w.untouched }
