-- A node that is written behind a sound table keeps the rules. Assumes nothing.
use mathlib.Core.Path.{◌≡◌, refl, sym, ◌∙◌, ap, subst}
use mathlib.Core.Bool.{Bool, true, false, cond, ◌&&◌}
use mathlib.Core.Logic.{◌⊎◌, inl, inr, ⊎_elim}
use Prim.Native.Nat.{ℕ, zero, suc, ◌+◌, ◌-◌, ◌*◌, ◌≤◌, ◌<◌}
use native.Mathlib.Omega.{arith}
use lib.Dec.{ltb}
use lib.ListN.{length}
use lib.IntN.{pos}
use borrow.Author.Tests.{le-ltb}
use Rattle.ids.specs.Id.{sign, ref, under}
use Rattle.ids.proofs.Signs.{ref_under, under_inj, sign_under}
use Rattle.ranges.specs.Line.{top}
use Rattle.ranges.specs.Ending.{place_at}
use Rattle.ranges.proofs.Positions.{place_place_at, position_place_at}
use Rattle.diagram.specs.Shape.{Each, Reduced}
use Rattle.diagram.specs.Table.{variables, first_boolean, is_range, top_of, Node, at}
use Rattle.diagram.specs.Sound.{Child}
use Rattle.diagram.proofs.Numbered.{each_run}
use Rattle.table.specs.Layout.{var_at, spare_at, kid_at, cut_at, start, cut_position, Store}
use Rattle.table.specs.Lent.{Stands, KidsStand, Blank, Rules}
use Rattle.table.specs.Checking.{below, Climbs}
use Rattle.table.specs.Held.{held}
use Rattle.table.proofs.CutPositions.{cut_position_place, cuts_from_climbs}
use Rattle.table.proofs.Scan.{table_length}
use Rattle.table.proofs.Bridge.{at_held}
use Rattle.table.proofs.Laws as laws
use Rattle.table.proofs.Laws.{kids_stand_at_equal, climbs_at_equal, blank_at_equal}
use Rattle.making.specs.declared.edges.Edges as built
use Rattle.making.specs.Building.{Building, child_in, cut_in, key_in, pieces_of, zero_cut}
use Rattle.making.specs.Storing.{stored_cut, EdgesPut, RecordPut}
use Rattle.making.proofs.Arrays.{step_in, cut_most, bool_two}
use Rattle.making.proofs.Hashing.{key_own, key_none}

-- A stored cut by its position,
cut_position_stored : (v j count k : ℕ) → k ≤ top → cut_position (stored_cut v j count k) ≡ cond (is_range v && ltb (j + 1) count) k zero_cut
cut_position_stored v j count k h = go (is_range v && ltb (j + 1) count)
  where
    go : (b : Bool) → cut_position (cond b (place_at k) (pos 0)) ≡ cond b k zero_cut
    go true = cut_position_place (place_at k) (place_place_at k h) ∙ position_place_at k h
    go false = refl

-- and where there is none.
pub last_cut : (v j count k : ℕ) → count ≤ j + 1 → stored_cut v j count k ≡ pos 0
last_cut v j count k l = go (is_range v)
  where
    go : (b : Bool) → cond (b && ltb (j + 1) count) (place_at k) (pos 0) ≡ pos 0
    go true = rw (le-ltb (j + 1) count l)
    go false = refl

bool_none : (v j count k : ℕ) → first_boolean ≤ v → stored_cut v j count k ≡ pos 0
bool_none v j count k h = rw (le-ltb v first_boolean h)

-- The cut that is stored is the key of its edge.
module _ (v : ℕ) (es : built.Edges) (red : Reduced 0 (top_of v) (pieces_of es)) where
  pub cut_position_put : (j : ℕ) → j < es.len → cut_position (stored_cut v j es.len (cut_in es j)) ≡ key_in v es j
  unfolding key_in
  cut_position_put j l = ⊎_elim (λ h. cut_position_stored v j es.len (cut_in es j) (cut_most v es red j h)) (λ h. ap cut_position (last_cut v j es.len (cut_in es j) h) ∙ sym (key_none v j es h)) (laws.lt_or_le (j + 1) es.len)

module _ {st : Store} {u e v s : ℕ} {es : built.Edges} {st' : Store} (known : v < variables) (b : Building es) (many : 2 ≤ es.len)
    (red : Reduced 0 (top_of v) (pieces_of es)) (kids : Each (Child (held st u) (suc v)) (pieces_of es)) (sgn : sign (child_in es 0) ≡ s)
    (q : RecordPut st.nodes u v es.len e st'.nodes) (p : EdgesPut st.children st.cuts e v s es st'.children st'.cuts) where
  child_stands : (c : ℕ) → Child (held st u) (suc v) c → Stands st'.nodes u v (under s c)
  child_stands c k = subst (λ (x : ℕ). (under s c < 2) ⊎ ((x ≤ u) × (v < var_at st'.nodes (x - 1)))) (sym (ref_under s c)) (go (ref c) refl)
    where
      go : (r : ℕ) → ref c ≡ r → (under s c < 2) ⊎ ((ref c ≤ u) × (v < var_at st'.nodes (ref c - 1)))
      go zero z = inl (let a = ref_under s c in omega arith)
      go (suc m) z =
          let h : m < u = omega (arith, k.0, table_length st u) in
          let w : ref c - 1 ≡ m = omega arith in
          let x = ap (λ (nd : Node). nd.var) (ap (at (held st u)) z ∙ at_held st u m h) in
          let y = q.other (m * 4) (inl (omega arith)) in
          inr (omega (arith, k.0, table_length st u), subst (λ (i : ℕ). v < var_at st'.nodes i) (sym w) (omega (arith, k.1, x, y)))

  stand : KidsStand st'.nodes st'.children u v e es.len
  stand = record {
    stand = λ j l. subst (Stands st'.nodes u v) (sym (p.child_is j l)) (child_stands (child_in es j) (each_run (child_in es) (cut_in es) (Child (held st u) (suc v)) (es.len - 1) kids j (omega arith)));
    differ = λ j l x. (step_in v es red j l).differ (under_inj s (child_in es j) (child_in es (j + 1)) (sym (p.child_is j (omega arith)) ∙ (sym x ∙ p.child_is (j + 1) l)));
  }

  climbing : v < first_boolean → Climbs st'.cuts e es.len
  climbing h = record { rise = λ j l. rise j l; last = p.cut_is (es.len - 1) (omega arith) ∙ last_cut v (es.len - 1) es.len (cut_in es (es.len - 1)) (omega arith) }
    where
      at_cut : (j : ℕ) → j + 1 < es.len → cut_position (cut_at st'.cuts (e + j)) ≡ cut_in es j
      at_cut j l = ap cut_position (p.cut_is j (omega arith)) ∙ (cut_position_put v es red j (omega arith) ∙ key_own v j es h l)

      rise : (j : ℕ) → j + 1 < es.len → below st'.cuts e j < cut_position (cut_at st'.cuts (e + j))
      rise zero l = omega (arith, (step_in v es red 0 l).above, at_cut 0 l)
      rise (suc j) l = omega (arith, (step_in v es red (suc j) l).above, at_cut (suc j) l, at_cut j (omega arith))

  blank : first_boolean ≤ v → Blank st'.cuts e
  blank h = record {
    high = let a : e ≡ e + 0 = omega arith in ap (cut_at st'.cuts) a ∙ (p.cut_is 0 (omega arith) ∙ bool_none v 0 es.len (cut_in es 0) h);
    low = p.cut_is 1 (omega arith) ∙ bool_none v 1 es.len (cut_in es 1) h;
  }

  -- Record u as it is written.
  pub put_rules : spare_at st.nodes u ≡ 0 → start st'.nodes u ≡ e → e + es.len ≤ length st.children → Rules st' u
  put_rules spare from room =
      let vv = q.variable in
      let cc = q.counts in
      let ff = q.firsts in
      record {
        known = omega (arith, vv);
        many = omega (arith, cc);
        most = omega (arith, cc, b.most);
        two = λ h. cc ∙ bool_two v es red (omega (arith, vv)) many;
        spare = q.spare ∙ spare;
        packed = ff ∙ sym from;
        inside = omega (arith, ff, cc, p.wide);
        plain = ap (λ (i : ℕ). sign (kid_at st'.children i)) (ff ∙ zeroth) ∙ (ap sign (p.child_is 0 (omega arith)) ∙ sign_under (child_in es 0) s sgn);
        edges = kids_stand_at_equal (sym vv) (sym ff) (sym cc) stand;
        ranges = λ h. cuts_from_climbs st'.cuts _ _ (climbs_at_equal (sym ff) (sym cc) (climbing (omega (arith, vv))));
        booleans = λ h. blank_at_equal (sym ff) (blank (omega (arith, vv)));
      }
    where
      zeroth : e ≡ e + 0
      zeroth = omega arith
