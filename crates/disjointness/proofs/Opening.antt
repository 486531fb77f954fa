-- The opening tests, and the way down from two ids that they leave. Assumes nothing.
use mathlib.Core.Path.{◌≡◌, refl, sym, ◌∙◌, ap, ap₂, subst}
use mathlib.Core.Bool.{Bool, true, false, ◌&&◌, ◌||◌, true≢false}
use mathlib.Core.List.{List}
use Rattle.std.proofs.Common.{Option, Some, None, MatchOption, IfSome, is_some}
use Prim.Native.Nat.{ℕ, zero, suc, ◌*◌, ◌-◌, ◌≤◌, ◌<◌, min}
use native.Mathlib.Omega.{arith}
use borrow.Author.Tests.{lt-ltb, le-ltb, eqb-false}
use lib.Dec.{eqb}
use lib.ListN.{length}
use Rattle.ids.specs.Id.{ref, sign, flip}
use Rattle.ids.specs.declared.NodeId.{NodeId}
use Rattle.diagram.specs.Table.{variables, first_boolean, top_of, flipped, Table, at, value}
use Rattle.diagram.specs.Cofactor.{edges_of}
use Rattle.diagram.specs.Sound.{Child}
use Rattle.diagram.proofs.Either.{neither_true}
use Rattle.diagram.proofs.Facts.{origin}
use Rattle.diagram.proofs.Apart.{value_origin}
use Rattle.diagram.proofs.Piecewise.{each_imp}
use Rattle.algebra.specs.Disjointness.{disjoint_step, disjoint}
use Rattle.algebra.proofs.Disjoint.{Answer, never, meet, answer_yes, answered}
use Rattle.memo.specs.Recalling.{ids, Ordered, as_given, turned, Hit, Noted}
use Rattle.memo.proofs.Recalled.{hit_was_noted, in_either_order, noted_true}
use Rattle.views.specs.Seeing.{used_in, Readable, seen, Sees, Views}
use Rattle.views.specs.declared.View.{View}
use Rattle.views.proofs.Sights.{seen_range, seen_bool, views_rising, views_kids, views_inside, bool_count_le_two, known_held, known_used, record_inside, first_variable_is, sees_views, call_left}
use Rattle.disjointness.specs.Asking.{whole, apart, Opposed, Agreeing, Excluding, AskedIn, Listed, AskedPair, AskedSides, Answers}
use Rattle.table.specs.Layout.{var_at, Store}

module _ (t : Table) (x y : ℕ) where
  disjoint_yes : (n : ℕ) → 1 ≤ n → Opposed x y ≡ true → true ≡ disjoint n t x y
  unfolding disjoint disjoint_step
  disjoint_yes zero h o = absurd (omega arith)
  disjoint_yes (suc n) h o = rw o

  disjoint_no : (n : ℕ) → 1 ≤ n → Opposed x y ≡ false → Agreeing x y ≡ true → false ≡ disjoint n t x y
  unfolding disjoint disjoint_step
  disjoint_no zero h o g = absurd (omega arith)
  disjoint_no (suc n) h o g = rw (o, g)

  disjoint_apart : (n : ℕ) → 1 ≤ n → Opposed x y ≡ false → Agreeing x y ≡ false → (v : ℕ) → v ≡ min (at t (ref x)).var (at t (ref y)).var → disjoint n t x y ≡ apart (n - 1) t (edges_of t v x) (edges_of t v y)
  unfolding disjoint disjoint_step apart
  disjoint_apart zero h o g v e = absurd (omega arith)
  disjoint_apart (suc n) h o g v e = let m : suc n - 1 ≡ n = omega arith in rw (o, g, e, m)

-- ids that the opening tests leave are no terminals
pub no_terminal_left : (x y : ℕ) → Opposed x y ≡ false → Agreeing x y ≡ false → 2 ≤ x
no_terminal_left x y o g =
    let i = neither_true (eqb x 1) (eqb y 1 || eqb (flip x) y) o in
    let j = neither_true (eqb x 0) (eqb y 0 || eqb x y) g in
    omega (arith, eqb-false x 1 i.0, eqb-false x 0 j.0)

pub no_terminal_right : (x y : ℕ) → Opposed x y ≡ false → Agreeing x y ≡ false → 2 ≤ y
no_terminal_right x y o g =
    let i = neither_true (eqb y 1) (eqb (flip x) y) (neither_true (eqb x 1) (eqb y 1 || eqb (flip x) y) o).1 in
    let j = neither_true (eqb y 0) (eqb x y) (neither_true (eqb x 0) (eqb y 0 || eqb x y) g).1 in
    omega (arith, eqb-false y 1 i.0, eqb-false y 0 j.0)

-- an answer to what comes to the same, and with a rest that is the same where there is a set of words
pub answers_as : {st : Store} {noted : List ℕ} {rest rest₀ rest' : ℕ} {want want₀ : Bool} {r : Option Bool} → (8 ≤ length noted → rest ≡ rest₀) → want ≡ want₀ → Answers st noted rest rest' want r → Answers st noted rest₀ rest' want₀ r
answers_as {rest' = rest'} {r = r} h e a = record {
  right = subst (λ (w : Bool). MatchOption r (rest' ≡ 0) (λ yes. yes ≡ w)) e a.right;
  listed = a.listed;
  stays = λ l. a.stays l ∙ h l;
}

-- who excludes whom matters not
excluding_turned : (t : Table) (x y z : ℕ) → Excluding t x y z → Excluding t y x z
excluding_turned t x y z e α = turn (value t α x) (value t α y) (e α)
  where
    turn : (p q : Bool) → (p && q) ≡ false → (q && p) ≡ false
    turn true true h = h
    turn true false h = refl
    turn false true h = refl
    turn false false h = refl

excluding_given : (t : Table) (x y f g z : ℕ) → Ordered x y f g → Excluding t f g z → Excluding t x y z
excluding_given t x y f g z as_given e = e
excluding_given t x y f g z turned e = excluding_turned t y x z e

excluding_ordered : (t : Table) (x y f g z : ℕ) → Ordered x y f g → Excluding t x y z → Excluding t f g z
excluding_ordered t x y f g z as_given e = e
excluding_ordered t x y f g z turned e = excluding_turned t x y z e

-- ids that exclude each other have no other answer than yes
excluding_yes : {t : Table} {x y : ℕ} {r : Bool} (z : ℕ) → Answer t x y r → Excluding t x y z → true ≡ r
excluding_yes z (never h) e = refl
excluding_yes z (meet b) e = absurd (true≢false (sym (ap₂ ◌&&◌ b.left b.right) ∙ e b.assigned))

module _ {st : Store} {noted : List ℕ} {n x y : ℕ} (q : AskedPair st noted n x y) where
  abbrev u : ℕ
  u = used_in st.nodes

  abbrev t : Table
  t = whole st

  abbrev r : Readable st u
  r = q.listed.readable

  pub some_ahead : 1 ≤ n
  some_ahead = call_left r x q.left

  pub left_inside : ref x * 4 ≤ length st.nodes
  left_inside = record_inside r x q.left.known

  pub right_inside : ref y * 4 ≤ length st.nodes
  right_inside = record_inside r y q.right.known

  answer : Answer t x y (disjoint n t x y)
  answer = answered n t r.sound (min (at t (ref x)).var (at t (ref y)).var) x y (known_held st u x q.left.known, omega arith) (known_held st u y q.right.known, omega arith) (omega (arith, q.left.ahead, q.right.ahead))

  pub opening_yes : {p : Bool} → p ≡ Opposed x y → p ≡ true → true ≡ disjoint n t x y
  opening_yes e h = disjoint_yes t x y n some_ahead (sym e ∙ h)

  pub opening_no : {p g : Bool} → p ≡ Opposed x y → p ≡ false → g ≡ Agreeing x y → g ≡ true → false ≡ disjoint n t x y
  opening_no d o e h = disjoint_no t x y n some_ahead (sym d ∙ o) (sym e ∙ h)

  -- two even ids hold where every position is the first
  pub even_no : sign x ≡ 0 → sign y ≡ 0 → false ≡ disjoint n t x y
  even_no e f = meets answer (value_origin t r.sound x (known_held st u x q.left.known) ∙ ap (λ (s : ℕ). flipped s true) e) (value_origin t r.sound y (known_held st u y q.right.known) ∙ ap (λ (s : ℕ). flipped s true) f)
    where
      meets : {z : Bool} → Answer t x y z → value t origin x ≡ true → value t origin y ≡ true → false ≡ z
      meets (meet b) i j = refl
      meets (never h) i j = absurd (true≢false (sym (ap₂ ◌&&◌ i j) ∙ h origin))

  -- the pair in order has ids that an entry has room for
  module _ {f g : ℕ} (w : Ordered x y f g) where
    pub ids_small : (f < ids) × (g < ids)
    ids_small = in_either_order (λ z. z < ids) w (omega (arith, r.small, q.left.known)) (omega (arith, r.small, q.right.known))

    -- a pair that was noted
    pub recalled_yes : (o : Option NodeId) → 2 ≤ x → 2 ≤ y → IfSome o (λ id. Hit noted f g id.0) → is_some o ≡ true → true ≡ disjoint n t x y
    recalled_yes None hx hy h s = absurd (true≢false (sym s))
    recalled_yes (Some id) hx hy h s = excluding_yes id.0 answer (excluding_given t x y f g id.0 w (hit_was_noted q.listed.pairs (omega (arith, (in_either_order (λ z. 2 ≤ z) w hx hy).0)) h))

    -- a pair that is noted now
    pub noted_listed : {noted' noted'' : List ℕ} {z : ℕ} {yes : Bool} → Listed st noted' → yes ≡ true → yes ≡ disjoint n t x y → Noted noted' f g z noted'' → Listed st noted''
    noted_listed {z = z} l h e o = record {
      readable = r;
      most = omega (arith, o.long, l.most);
      pairs = noted_true l.pairs (excluding_ordered t x y f g z w (answer_yes answer (sym e ∙ h))) o;
    }

  module _ (o : Opposed x y ≡ false) (h : Agreeing x y ≡ false) where
    pub left_node : 2 ≤ x
    left_node = no_terminal_left x y o h

    pub right_node : 2 ≤ y
    right_node = no_terminal_right x y o h

    module _ {v : ℕ} {a b : View} (first : v ≡ min (var_at st.nodes (ref x - 1)) (var_at st.nodes (ref y - 1))) (sa : Sees st.nodes v x a) (sb : Sees st.nodes v y b) where
      ev : v ≡ min (at t (ref x)).var (at t (ref y)).var
      ev = (first_variable_is r x y left_node q.left.known right_node q.right.known first).0

      pub variable_known : v < variables
      variable_known = (first_variable_is r x y left_node q.left.known right_node q.right.known first).1

      va : Views st u v x a
      va = sees_views r x q.left.known variable_known sa

      vb : Views st u v y b
      vb = sees_views r y q.right.known variable_known sb

      left_child : Child t v x
      left_child = (known_held st u x q.left.known, omega (arith, ev))

      right_child : Child t v y
      right_child = (known_held st u y q.right.known, omega (arith, ev))

      below : (c : ℕ) → Child t (suc v) c → AskedIn st (n - 1) c
      below c k = record { known = known_used st u c k.0; ahead = omega (arith, k.1, ev, q.left.ahead, q.right.ahead, some_ahead) }

      -- the two views, at the variable
      pub sides_asked : AskedSides st noted v (n - 1) a b
      sides_asked = record {
        listed = q.listed;
        left = views_inside st u v x a r va;
        right = views_inside st u v y b r vb;
        left_rises = views_rising st u v x a r variable_known left_child va;
        right_rises = views_rising st u v y b r variable_known right_child vb;
        left_asked = each_imp (Child t (suc v)) (AskedIn st (n - 1)) below (seen st.children st.cuts v a 0) (views_kids st u v x a r variable_known left_child va);
        right_asked = each_imp (Child t (suc v)) (AskedIn st (n - 1)) below (seen st.children st.cuts v b 0) (views_kids st u v y b r variable_known right_child vb);
        two_edges = λ k. (bool_count_le_two st u v x a r variable_known left_child va k, bool_count_le_two st u v y b r variable_known right_child vb k);
      }

      -- whose answer is that of the ids
      pub sides_answer : apart (n - 1) t (seen st.children st.cuts v a 0) (seen st.children st.cuts v b 0) ≡ disjoint n t x y
      sides_answer = sym (disjoint_apart t x y n some_ahead o h v ev ∙ ap₂ (apart (n - 1) t) (sym va.edges) (sym vb.edges))

-- two views at a variable that stands for its kind
module _ {st : Store} {noted : List ℕ} {v n : ℕ} {a b : View} (s : AskedSides st noted v n a b) where
  module _ (k : ℕ) (top : top_of v ≡ top_of k) (same : (w : View) → seen st.children st.cuts v w 0 ≡ seen st.children st.cuts k w 0) (kind : first_boolean ≤ k → first_boolean ≤ v) where
    at_kind : AskedSides st noted k n a b
    at_kind = record {
      listed = s.listed;
      left = s.left;
      right = s.right;
      left_rises = rw (top, same a) at s.left_rises;
      right_rises = rw (top, same b) at s.right_rises;
      left_asked = rw (same a) at s.left_asked;
      right_asked = rw (same b) at s.right_asked;
      two_edges = λ h. s.two_edges (kind h);
    }

    kind_answer : apart n (whole st) (seen st.children st.cuts k a 0) (seen st.children st.cuts k b 0) ≡ apart n (whole st) (seen st.children st.cuts v a 0) (seen st.children st.cuts v b 0)
    kind_answer = sym (ap₂ (apart n (whole st)) (same a) (same b))

  pub range_sides : v < first_boolean → AskedSides st noted 0 n a b
  range_sides h = at_kind 0 (rw (lt-ltb v 32 h)) (λ w. seen_range st.children st.cuts v w 0 h) (λ k. absurd (omega arith))

  pub range_answer : v < first_boolean → apart n (whole st) (seen st.children st.cuts 0 a 0) (seen st.children st.cuts 0 b 0) ≡ apart n (whole st) (seen st.children st.cuts v a 0) (seen st.children st.cuts v b 0)
  range_answer h = kind_answer 0 (rw (lt-ltb v 32 h)) (λ w. seen_range st.children st.cuts v w 0 h) (λ k. absurd (omega arith))

  pub bool_sides : first_boolean ≤ v → AskedSides st noted first_boolean n a b
  bool_sides h = at_kind first_boolean (rw (le-ltb v 32 h)) (λ w. seen_bool st.children st.cuts v w 0 h) (λ k. h)

  pub bool_answer : first_boolean ≤ v → apart n (whole st) (seen st.children st.cuts first_boolean a 0) (seen st.children st.cuts first_boolean b 0) ≡ apart n (whole st) (seen st.children st.cuts v a 0) (seen st.children st.cuts v b 0)
  bool_answer h = kind_answer first_boolean (rw (le-ltb v 32 h)) (λ w. seen_bool st.children st.cuts v w 0 h) (λ k. h)
