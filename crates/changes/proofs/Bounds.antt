-- Narrowing and widening by bounds are changes by the range of positions between them; what is answered without looking. Assumes nothing.
use mathlib.Core.Path.{◌≡◌, sym, ◌∙◌, ap, ap₂}
use mathlib.Core.Bool.{Bool, cond}
use mathlib.Core.List.{List}
use Prim.Native.Nat.{ℕ, ◌≤◌, ◌<◌}
use lib.Dec.{ltb}
use borrow.Author.Tests.{lt-ltb, le-ltb}
use Rattle.ids.specs.Id.{FALSE, KnownTo}
use Rattle.ranges.specs.Line.{position}
use Rattle.ranges.specs.Bounding.{Keyed}
use Rattle.ranges.specs.Ending.{first_place, last_place, empty, Bounded}
use Rattle.ranges.specs.declared.bounds.Bound.{Bound}
use Rattle.ranges.specs.declared.bounds.Bound.TheVariants.{Open}
use Rattle.ranges.specs.declared.spans.Range.{Range}
use Rattle.ranges.proofs.Positions.{empty_positions}
use Rattle.ranges.proofs.Nearest.{empty_exactly}
use Rattle.diagram.specs.Table.{variables, first_boolean, top_of, Table}
use Rattle.diagram.specs.Sound.{Known}
use Rattle.algebra.specs.Changing.{change, emptied, narrowed, narrow, widened, widen}
use Rattle.algebra.proofs.Shortcuts.{narrow_open, widen_empty, widen_open}
use Rattle.merging.proofs.Bottoms.{narrow_is_change, widen_is_change}
use Rattle.table.specs.declared.lent.Used.{Used}
use Rattle.making.specs.Outcome.{Lent, table_of}
use Rattle.views.proofs.Sights.{known_held}
use Rattle.walks.proofs.Composing.{lent_sound}
use Rattle.changes.specs.Changed.{changed, narrowing, widening}
use Rattle.table.specs.Layout.{Store}

module _ {lower upper : Bound} {r : Range} (b : Bounded lower upper r) (kl : Keyed lower) (ku : Keyed upper) where
  -- the bounds are empty when the range is
  empty_is : empty lower upper ≡ ltb r.last r.first
  empty_is = empty_positions lower upper kl ku ∙ sym (ap₂ ltb b.last b.first)

  module _ (t : Table) (v id : ℕ) where
    -- narrowing by bounds, empty or not, is the change by their range,
    pub narrow_bounded : changed v (narrowing r) t id ≡ narrow t v lower upper id
    narrow_bounded =
        sym (narrow_is_change t v lower upper id
        ∙ (ap (λ (x : Bool). change variables (λ e. cond x (emptied e) (narrowed (position (first_place lower)) (position (last_place upper)) e)) t v id) empty_is
        ∙ sym (ap₂ (λ (lo hi : ℕ). change variables (λ e. cond (ltb r.last r.first) (emptied e) (narrowed lo hi e)) t v id) b.first b.last)))

    -- and widening by bounds that are not empty
    pub widen_bounded : r.first ≤ r.last → changed v (widening v r) t id ≡ widen t v lower upper id
    widen_bounded some =
        ap₂ (λ (lo hi : ℕ). change variables (widened lo hi (top_of v)) t v id) b.first b.last ∙ sym (widen_is_change t v lower upper id (empty_is ∙ le-ltb r.last r.first some))

module _ {h : Used} {st : Store} {index : List ℕ} (l : Lent h st index) (v id : ℕ) (k : KnownTo h.nodes id) (hv : v < first_boolean) where
  abbrev t : Table
  t = table_of h st

  -- the id is one of the table
  known : Known t id
  known = known_held st h.nodes id k

  -- "both ends open: the id unchanged" by narrowing, and by widening
  module _ {lower upper : Bound} (both : (lower ≡ Open) × (upper ≡ Open)) where
    pub narrow_all : narrow t v lower upper id ≡ (t, id)
    narrow_all = ap₂ (λ (x y : Bound). narrow t v x y id) both.0 both.1 ∙ narrow_open t (lent_sound l) v hv id known

    pub widen_all : widen t v lower upper id ≡ (t, id)
    widen_all = ap₂ (λ (x y : Bound). widen t v x y id) both.0 both.1 ∙ widen_open t (lent_sound l) v hv id known

  -- "Empty bounds give FALSE."
  pub widen_none : {lower upper : Bound} {r : Range} → Bounded lower upper r → Keyed lower → Keyed upper → r.last < r.first → widen t v lower upper id ≡ (t, FALSE)
  widen_none {lower} {upper} {r} b kl ku none = widen_empty t (lent_sound l) v hv id known lower upper kl ku ((empty_exactly lower upper kl ku).0 (empty_is b kl ku ∙ lt-ltb r.last r.first none))
