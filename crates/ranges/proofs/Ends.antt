-- Bounds as the code has them: their keys, the ends of a range between two, and the range of a comparison. Assumes nothing.
use mathlib.Core.Path.{◌≡◌, sym, subst}
use mathlib.Core.Bool.{Bool}
use Prim.Native.Nat.{ℕ, ◌+◌, ◌-◌, ◌<◌}
use native.Mathlib.Omega.{arith}
use lib.IntN.{ℤ}
use mir.Syntax.{w32}
use mir.Val.{to_z, of_z, SFits}
use mir.ValLaws.{to_z-of_z}
use denote.Laws.{Is}
use denote.Enum.Laws.{owed, vals}
use Rattle.ranges.specs.Line.{Key, exactly, position, top}
use Rattle.ranges.specs.Bounding.{Keyed}
use Rattle.ranges.specs.Ending.{first_place, last_place, lower_of, upper_of, outside_of, Bounded, Compares}
use Rattle.ranges.specs.declared.bounds.Bound.{Bound}
use Rattle.ranges.specs.declared.bounds.Bound.TheVariants.{Open, Includes, Excludes}
use Rattle.ranges.specs.declared.bounds.Comparison.{Comparison}
use Rattle.ranges.specs.declared.spans.Range.{Range}
use Rattle.ranges.specs.contracts.bounds.Bound.{the_type, the_row}
use Rattle.ranges.proofs.bounds.Bound.TheLaws.{the_laws}
use Rattle.ranges.proofs.Positions.{position_top, exactly_between, place_exactly, place_first, place_last, position_next, position_before, inside_positions, compares_bounds}
use Rattle.ranges.proofs.Machine.{key_fits, key_back}

-- What it is to be a bound that the machine holds.
abbrev Held : Bound → Type 0
Held b = Is the_row b (vals the_type the_laws b)

pub held_keyed : (b : Bound) → Held b → Keyed b
held_keyed Open h = tt
held_keyed (Includes v) h = key_fits v (owed the_type the_laws (Includes v) (vals the_type the_laws (Includes v)) h).0.1
held_keyed (Excludes v) h = key_fits v (owed the_type the_laws (Excludes v) (vals the_type the_laws (Excludes v)) h).0.1

-- The position of a bound's key, as the first or the last of a range, and as the one beside.
pub record At (b : Bound) (q : ℕ) : Type 0 where
  pub first : q ≡ position (first_place b)
  pub last : q ≡ position (last_place b)

pub record Beside (b : Bound) (q : ℕ) : Type 0 where
  pub some : 0 < q
  pub few : q < top
  pub first : q + 1 ≡ position (first_place b)
  pub last : q - 1 ≡ position (last_place b)

exact : (v : ℤ) (q : ℕ) → Key v → q ≡ position (exactly (to_z w32 (of_z w32 v))) → q ≡ position (exactly v)
exact v q h r = rw (key_back v h) at r

pub included : {b : Bound} {v : ℤ} {q : ℕ} → Held b → b ≡ Includes v → q ≡ position (exactly (to_z w32 (of_z w32 v))) → At b q
included {b} {v} {q} o e r = let x = exact v q (subst Keyed e (held_keyed b o)) r in rw e (record { first = x; last = x })

pub excluded : {b : Bound} {v : ℤ} {q : ℕ} → Held b → b ≡ Excludes v → q ≡ position (exactly (to_z w32 (of_z w32 v))) → Beside b q
excluded {b} {v} {q} o e r =
    let h : Key v = subst Keyed e (held_keyed b o) in
    let x = exact v q h r in
    let l = exactly_between v h in
    rw e (omega (arith, position_next (exactly v) (place_exactly v h), position_before (exactly v)))

pub bounded : {lower upper : Bound} {r : Range} → Keyed lower → Keyed upper → r.first ≡ position (first_place lower) → r.last ≡ position (last_place upper) → Bounded lower upper r
bounded {lower} {upper} kl ku f l = record {
  first = f;
  last = l;
  first_within = omega (arith, position_top (first_place lower) (place_first lower kl));
  last_within = omega (arith, position_top (last_place upper) (place_last upper ku));
  inner = λ p h. rw (f, l) (sym (inside_positions lower upper kl ku p h));
}

-- The code hands a key on as 32 bits.
pub compared : {op is : Comparison} {key : ℤ} {r : Range} {o : Bool} → SFits w32 key → op ≡ is → Bounded (lower_of is (to_z w32 (of_z w32 key))) (upper_of is (to_z w32 (of_z w32 key))) r → o ≡ outside_of is → Compares op key (record { range = r; outside = o })
compared {is = is} {key = key} f e b o =
    let d : Bounded (lower_of is key) (upper_of is key) _ = rw (to_z-of_z w32 key f) at b in
    record { between = rw e d; side = rw e o; says = λ p h. rw (e, o, d.inner p h) (sym (compares_bounds is key p)) }
