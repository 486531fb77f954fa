-- A record that matches a node under construction is that node, and has its hash. Assumes nothing.
use mathlib.Core.Path.{◌≡◌, refl, sym, ◌∙◌, ap}
use mathlib.Core.Logic.{◌⊎◌, inl, inr, ⊎_elim}
use Prim.Native.Nat.{ℕ, zero, suc, ◌+◌, ◌-◌, ◌*◌, ◌/◌, ◌≤◌, ◌<◌}
use native.Mathlib.Omega.{arith}
use Rattle.ids.specs.Id.{under}
use Rattle.diagram.specs.Pieces.{Pieces, last, cut}
use Rattle.diagram.specs.Shape.{count, Reduced, run}
use Rattle.diagram.specs.Table.{top_of, Node}
use Rattle.diagram.proofs.Numbered.{count_run, run_shift, map_run}
use Rattle.table.specs.Layout.{var_at, count_at, first_at, kid_at, cut_at, room, start, cut_position, Store}
use Rattle.chains.proofs.Lexical.{key_same, key_tells}
use Rattle.table.specs.Indexed.{hash_to, hash_at, bucket_at, key_at}
use Rattle.table.specs.Lent.{Rules}
use Rattle.table.specs.Held.{edges_from, node_at}
use Rattle.table.proofs.Laws.{lt_or_le, mix_at_equal}
use Rattle.table.proofs.Bridge.{kid_of, cut_of, edges_run, range_edges, bool_edges}
use Rattle.table.proofs.Determined.{count_node, kid_node, cut_position_node, no_cut_last, no_cut_bool}
use Rattle.making.specs.declared.edges.Edges as built
use Rattle.making.specs.Building.{child_in, cut_in, pieces_of, node_of, key_in, hash_in, content_of}
use Rattle.making.proofs.Arrays.{kid_run, cut_run, bool_two, bool_cut}
use Rattle.making.proofs.Hashing.{key_own, key_none, key_bool}

-- Record n is this node.
pub record Matches (st : Store) (n v s : ℕ) (es : built.Edges) : Type 0 where
  pub variable : var_at st.nodes n ≡ v
  pub count : count_at st.nodes n ≡ es.len
  pub child : (j : ℕ) → j < es.len → kid_at st.children (first_at st.nodes n + j) ≡ under s (child_in es j)
  pub cut : (j : ℕ) → j < es.len → cut_position (cut_at st.cuts (first_at st.nodes n + j)) ≡ key_in v es j

-- the edges of the node under construction, by their numbers
module _ (v s : ℕ) (es : built.Edges) where
  edges_of_lem : (node_of v s es).edges ≡ run (λ j. under s (child_in es j)) (cut_in es) 0 (es.len - 1)
  edges_of_lem = map_run (under s) (child_in es) (cut_in es) 0 (es.len - 1)

  pub count_of_node : 1 ≤ es.len → count (node_of v s es).edges ≡ es.len
  count_of_node h = ap count edges_of_lem ∙ count_run (λ j. under s (child_in es j)) (cut_in es) 0 (es.len - 1) ∙ (let e : suc (es.len - 1) ≡ es.len = omega arith in e)

  pub kid_of_node : (j : ℕ) → j < es.len → kid_of (node_of v s es).edges j ≡ under s (child_in es j)
  kid_of_node j l =
      let a : 0 + j ≡ j = omega arith in
      ap (λ (e : Pieces ℕ). kid_of e j) edges_of_lem ∙ kid_run (λ i. under s (child_in es i)) (cut_in es) 0 (es.len - 1) j (omega arith) ∙ ap (λ (i : ℕ). under s (child_in es i)) a

  pub cut_of_node : (j : ℕ) → j + 1 < es.len → cut_of (node_of v s es).edges j ≡ cut_in es j
  cut_of_node j l =
      let a : 0 + j ≡ j = omega arith in
      ap (λ (e : Pieces ℕ). cut_of e j) edges_of_lem ∙ cut_run (λ i. under s (child_in es i)) (cut_in es) 0 (es.len - 1) j (omega arith) ∙ ap (cut_in es) a

two_edges : {A : Type 0} (c : ℕ → A) (k : ℕ → ℕ) → run c k 0 1 ≡ cut (c 0) (k 0) (last (c 1))
unfolding run
two_edges c k = refl

-- a record that matches is the node
module _ {st : Store} {n v s : ℕ} {es : built.Edges} (two : 2 ≤ es.len) (red : Reduced 0 (top_of v) (pieces_of es)) (m : Matches st n v s es) where
  range_same : v < 32 → (node_at st n).edges ≡ (node_of v s es).edges
  range_same h =
      let e = first_at st.nodes n in
      let w : var_at st.nodes n < 32 = omega (arith, m.variable) in
      let k : count_at st.nodes n - 1 ≡ es.len - 1 = ap (λ (i : ℕ). i - 1) m.count in
      range_edges st.children st.cuts (var_at st.nodes n) e (count_at st.nodes n) w ∙ ap (edges_from st.children st.cuts e) k ∙ edges_run st.children st.cuts e (es.len - 1)
      ∙ run_shift (λ j. kid_at st.children (e + j)) (λ j. under s (child_in es j)) (λ j. cut_position (cut_at st.cuts (e + j))) (cut_in es) 0 0 (es.len - 1) (λ j l. m.child (0 + j) (omega arith)) (λ j l. m.cut (0 + j) (omega arith) ∙ key_own v (0 + j) es h (omega arith))
      ∙ sym (edges_of_lem v s es)

  bool_same : 32 ≤ v → (node_at st n).edges ≡ (node_of v s es).edges
  bool_same h =
      let e = first_at st.nodes n in
      let z : e ≡ e + 0 = omega arith in
      let one : 1 ≡ es.len - 1 = omega (arith, bool_two v es red h two) in
      let p = ap (kid_at st.children) z ∙ m.child 0 (omega arith) in
      let q = sym (bool_cut v es red h two) in
      let r = m.child 1 (omega arith) in
      bool_edges st.children st.cuts (var_at st.nodes n) e (count_at st.nodes n) (omega (arith, m.variable)) ∙ (λ i. cut (p i) (q i) (last (r i))) ∙ sym (two_edges (λ j. under s (child_in es j)) (cut_in es)) ∙ ap (run (λ j. under s (child_in es j)) (cut_in es) 0) one
      ∙ sym (edges_of_lem v s es)

  pub matches_node : node_at st n ≡ node_of v s es
  matches_node =
      let p = m.variable in
      let q = ⊎_elim range_same bool_same (lt_or_le v 32) in
      λ i. record { var = p i; edges = q i }

-- and a record that is the node matches
pub node_matches : {st : Store} {n v s : ℕ} {es : built.Edges} → Rules st n → 1 ≤ es.len → node_at st n ≡ node_of v s es → Matches st n v s es
node_matches {st} {n} {v} {s} {es} r some q = record {
  variable = same_var;
  count = same_count;
  child = λ j l. ap (λ (i : ℕ). kid_at st.children (i + j)) r.packed ∙ sym (kid_node st n r j (omega (arith, same_count))) ∙ ap (λ (e : Pieces ℕ). kid_of e j) edges ∙ kid_of_node v s es j l;
  cut = λ j l. ap (λ (i : ℕ). cut_position (cut_at st.cuts (i + j))) r.packed ∙ at_start j l (lt_or_le v 32) (lt_or_le (j + 1) es.len);
}
  where
    edges : (node_at st n).edges ≡ (node_of v s es).edges
    edges = ap (λ (x : Node). x.edges) q

    same_var : var_at st.nodes n ≡ v
    same_var = ap (λ (x : Node). x.var) q

    same_count : count_at st.nodes n ≡ es.len
    same_count = sym (count_node st n r) ∙ ap count edges ∙ count_of_node v s es some

    at_start : (j : ℕ) → j < es.len → (v < 32) ⊎ (32 ≤ v) → (j + 1 < es.len) ⊎ (es.len ≤ j + 1) → cut_position (cut_at st.cuts (start st.nodes n + j)) ≡ key_in v es j
    at_start j l (inl h) (inl g) = sym (cut_position_node st n r j (omega (arith, same_var)) (omega (arith, same_count))) ∙ ap (λ (e : Pieces ℕ). cut_of e j) edges ∙ cut_of_node v s es j g ∙ sym (key_own v j es h g)
    at_start j l (inl h) (inr g) = ap cut_position (no_cut_last st n r j (omega (arith, same_var)) (omega (arith, same_count)) (omega (arith, same_count))) ∙ sym (key_none v j es g)
    at_start j l (inr h) g = ap cut_position (no_cut_bool st n r j (omega (arith, same_var)) (omega (arith, same_count))) ∙ sym (key_bool v j es h)

-- the hash of a record that matches, and its bucket
module _ {st : Store} {n v s : ℕ} {es : built.Edges} (m : Matches st n v s es) where
  hash_to_lem : (j : ℕ) → j ≤ es.len → hash_to st.children st.cuts (var_at st.nodes n) (first_at st.nodes n) j ≡ hash_in v s es j
  unfolding hash_to hash_in
  hash_to_lem zero h = let e = m.variable in omega arith
  hash_to_lem (suc j) h = mix_at_equal (hash_to_lem j (omega arith)) (m.child j (omega arith)) (m.cut j (omega arith))

  pub hash_matches : hash_at st n ≡ hash_in v s es es.len
  unfolding hash_at
  hash_matches = ap (hash_to st.children st.cuts (var_at st.nodes n) (first_at st.nodes n)) m.count ∙ hash_to_lem es.len (omega arith)

  pub bucket_matches : bucket_at st n ≡ hash_in v s es es.len * room st.nodes / 4294967296
  unfolding bucket_at
  bucket_matches = ap (λ (h : ℕ). h * room st.nodes / 4294967296) hash_matches

  -- and what it is ordered by
  pub content_matches : key_at st n ≡ content_of v s es
  unfolding key_at content_of
  content_matches = key_same _ _ _ _ _ _ _ _ _ _ (record { hash = hash_matches; variable = m.variable; count = m.count; edges = λ j l. (m.child j (omega (arith, m.count)), m.cut j (omega (arith, m.count))) })

-- A record that is ordered by the same matches.
pub matches_content : {st : Store} {n v s : ℕ} {es : built.Edges} → key_at st n ≡ content_of v s es → Matches st n v s es
unfolding key_at content_of
matches_content e = let k = key_tells _ _ _ _ _ _ _ _ _ _ e in record {
  variable = k.variable;
  count = k.count;
  child = λ j l. (k.edges j (omega (arith, k.count))).0;
  cut = λ j l. (k.edges j (omega (arith, k.count))).1;
}
