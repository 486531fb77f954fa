-- The order in which the two sides are walked. Assumes nothing.
use mathlib.Core.Path.{◌≡◌, refl, ap}
use mathlib.Core.Bool.{Bool, false, not, ◌&&◌}
use mathlib.Core.List.{List}
use Prim.Native.Nat.{ℕ, ◌≤◌, ◌<◌}
use lib.Dec.{eqb}
use borrow.Author.Tests.{lt-ltb, le-ltb}
use Rattle.diagram.specs.Table.{first_boolean, is_range}
use Rattle.views.specs.declared.View.{View}
use Rattle.views.specs.Seeing.{seen}
use Rattle.table.specs.declared.lent.Used.{Used}
use Rattle.making.specs.Made.{Made}
use Rattle.making.specs.Outcome.{table_of}
use Rattle.walks.specs.Walking.{Stepped, both}
use Rattle.walks.proofs.Composing.{stepped_equal_want}
use Rattle.conjunction.specs.Joining.{Entry, pairs}
use Rattle.table.specs.Layout.{Store}

range_order : (v : ℕ) → v < first_boolean → (z : Bool) → false ≡ (not (is_range v) && z)
range_order v h z = rw (lt-ltb v first_boolean h) refl

bool_order : (v : ℕ) → first_boolean ≤ v → (z : Bool) → z ≡ (not (is_range v) && z)
bool_order v h z = rw (le-ltb v first_boolean h) refl

module _ (h : Used) (st : Store) (memo : List ℕ) (a b : View) (v n : ℕ) {m : Made} {st' : Store} {index' memo' : List ℕ} where
  pub left_to_right : v < first_boolean → Stepped Entry h (both false (pairs n) (table_of h st) v (seen st.children st.cuts v a 0) (seen st.children st.cuts v b 0)) m st memo st' index' memo' → Stepped Entry h (both (not (is_range v) && not (eqb a.count b.count)) (pairs n) (table_of h st) v (seen st.children st.cuts v a 0) (seen st.children st.cuts v b 0)) m st memo st' index' memo'
  left_to_right l c = stepped_equal_want c (ap (λ (back : Bool). both back (pairs n) (table_of h st) v (seen st.children st.cuts v a 0) (seen st.children st.cuts v b 0)) (range_order v l (not (eqb a.count b.count))))

  pub by_tests : first_boolean ≤ v → Stepped Entry h (both (not (eqb a.count b.count)) (pairs n) (table_of h st) v (seen st.children st.cuts v a 0) (seen st.children st.cuts v b 0)) m st memo st' index' memo' → Stepped Entry h (both (not (is_range v) && not (eqb a.count b.count)) (pairs n) (table_of h st) v (seen st.children st.cuts v a 0) (seen st.children st.cuts v b 0)) m st memo st' index' memo'
  by_tests l c = stepped_equal_want c (ap (λ (back : Bool). both back (pairs n) (table_of h st) v (seen st.children st.cuts v a 0) (seen st.children st.cuts v b 0)) (bool_order v l (not (eqb a.count b.count))))
