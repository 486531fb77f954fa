-- What a node is ordered by, compared as the code does: number by number, and in parts. Assumes nothing.
use mathlib.Core.Path.{◌≡◌, refl, sym, ◌∙◌, ap, subst}
use mathlib.Core.Bool.{Bool, true, false, cond, ◌&&◌}
use mathlib.Core.List.{List, [], ◌∷◌, ◌++◌}
use Prim.Native.Nat.{ℕ, suc, ◌+◌, ◌-◌, ◌≤◌, ◌<◌}
use native.Mathlib.Omega.{arith}
use native.Mathlib.Numerals.{add-one}
use lib.ListN.{length}
use lib.IntN.{ℤ}
use lib.Dec.{ltb}
use Rattle.std.specs.Ordering.{ordering_index, nat_cmp, is_ne}
use Rattle.std.specs.Cmp.{nat_cmp_is}
use Rattle.std.specs.declared.cmp.Ordering.{Ordering}
use Rattle.std.specs.declared.cmp.Ordering.TheVariants.{Less, Equal, Greater}
use Rattle.table.proofs.Laws.{Order, less, equal, more, lt_eq_or_gt, not_false_and_true}
use Rattle.ids.specs.Id.{under}
use Rattle.diagram.specs.Table.{is_range}
use Rattle.chains.specs.Lexical.{run}
use Rattle.chains.proofs.Lexical.{less_smaller, less_append, less_skip}
use Rattle.table.specs.Layout.{var_at, count_at, first_at, kid_at, cut_at, cut_position, Store}
use Rattle.table.specs.Indexed.{hash_at, key_at}
use Rattle.making.specs.declared.chain.Front.{Front}
use Rattle.making.specs.declared.edges.Edges as built
use Rattle.making.specs.Building.{child_in, cut_in, key_in, zero_cut, hash_in, content_of}
use Rattle.making.specs.Seeking.{Ordered, edge_at, front_at, rest_at, front_of, rest_in, fronted}

-- The front of a node under construction.
abbrev pub front_in : ℕ → ℕ → built.Edges → List ℕ
front_in v s es = v ∷ (es.len ∷ (under s (child_in es 0) ∷ (key_in v es 0 ∷ (under s (child_in es 1) ∷ (key_in v es 1 ∷ [])))))

-- Two numbers.
pub ordered_before : (x y : ℕ) → x < y → Ordered (x ∷ []) (y ∷ []) 0
ordered_before x y l = record { before = λ e. less_smaller x y [] [] l; same = λ e. absurd (omega arith); behind = λ e. absurd (omega arith) }

pub ordered_behind : (x y : ℕ) → y < x → Ordered (x ∷ []) (y ∷ []) 2
ordered_behind x y l = record { before = λ e. absurd (omega arith); same = λ e. absurd (omega arith); behind = λ e. less_smaller y x [] [] l }

pub ordered_same : {xs ys : List ℕ} → xs ≡ ys → Ordered xs ys 1
ordered_same e = record { before = λ d. absurd (omega arith); same = λ d. e; behind = λ d. absurd (omega arith) }

pub ordered_cmp : {x y : ℕ} {o : Ordering} → o ≡ nat_cmp x y → Ordered (x ∷ []) (y ∷ []) (ordering_index o)
ordered_cmp {x} {y} {o} e = go (lt_eq_or_gt x y)
  where
    at_answer : (r : Ordering) → r ≡ nat_cmp x y → Ordered (x ∷ []) (y ∷ []) (ordering_index r) → Ordered (x ∷ []) (y ∷ []) (ordering_index o)
    at_answer r q = subst (λ (a : Ordering). Ordered (x ∷ []) (y ∷ []) (ordering_index a)) (q ∙ sym e)

    go : Order x y → Ordered (x ∷ []) (y ∷ []) (ordering_index o)
    go (less l) = at_answer Less (nat_cmp_is x y Less l) (ordered_before x y l)
    go (equal q) = at_answer Equal (nat_cmp_is x y Equal q) (ordered_same (ap (λ (i : ℕ). i ∷ []) q))
    go (more l) = at_answer Greater (nat_cmp_is x y Greater l) (ordered_behind x y l)

-- What a test of an answer says of it.
pub index_equal : (o : Ordering) → ordering_index o ≡ 1 → o ≡ Equal
index_equal Less e = absurd (omega arith)
index_equal Equal e = refl
index_equal Greater e = absurd (omega arith)

pub tested_same : (o : Ordering) {b : Bool} → b ≡ is_ne o → b ≡ false → ordering_index o ≡ 1
tested_same o {b} q f = go o (sym q ∙ f)
  where
    go : (o : Ordering) → is_ne o ≡ false → ordering_index o ≡ 1
    go Less e = absurd (not_false_and_true e refl)
    go Equal e = refl
    go Greater e = absurd (not_false_and_true e refl)

pub tested_other : (o : Ordering) {b : Bool} → b ≡ is_ne o → b ≡ true → ordering_index o ≡ 1 → ⊥
tested_other o {b} q t e = not_false_and_true (subst (λ (a : Ordering). is_ne a ≡ false) (sym (index_equal o e)) refl) (sym q ∙ t)

pub ordered_equal : {xs xs' ys ys' : List ℕ} {r : ℕ} → xs ≡ xs' → ys ≡ ys' → Ordered xs ys r → Ordered xs' ys' r
ordered_equal p q o = rw (sym p, sym q) o

-- A part that is not the same decides,
pub ordered_decided : (xs ys zs ws : List ℕ) {r : ℕ} → length xs ≡ length ys → Ordered xs ys r → (r ≡ 1 → ⊥) → Ordered (xs ++ zs) (ys ++ ws) r
ordered_decided xs ys zs ws e o d = record { before = λ q. less_append xs ys zs ws e (o.before q); same = λ q. absurd (d q); behind = λ q. less_append ys xs ws zs (sym e) (o.behind q) }

-- and one that is leaves it to the rest.
pub ordered_further : (xs ys : List ℕ) {zs ws : List ℕ} {r : ℕ} → xs ≡ ys → Ordered zs ws r → Ordered (xs ++ zs) (ys ++ ws) r
ordered_further xs ys {zs} {ws} {r} e o = subst (λ (l : List ℕ). Ordered (xs ++ zs) (l ++ ws) r) e (record { before = λ q. less_skip xs zs ws ∙ o.before q; same = λ q. ap (λ (l : List ℕ). xs ++ l) (o.same q); behind = λ q. less_skip xs ws zs ∙ o.behind q })

-- The same of a number that was read, x of a.
pub ordered_at : {x a : ℕ} {ys : List ℕ} {r : ℕ} → x ≡ a → Ordered (x ∷ []) ys r → Ordered (a ∷ []) ys r
ordered_at {ys = ys} {r} e o = subst (λ (i : ℕ). Ordered (i ∷ []) ys r) e o

pub number_decided : {x a c : ℕ} {r : ℕ} (zs ws : List ℕ) → x ≡ a → Ordered (x ∷ []) (c ∷ []) r → (r ≡ 1 → ⊥) → Ordered (a ∷ zs) (c ∷ ws) r
number_decided {a = a} {c} zs ws e o d = ordered_decided (a ∷ []) (c ∷ []) zs ws refl (ordered_at e o) d

pub number_further : {x a c : ℕ} {q r : ℕ} {zs ws : List ℕ} → x ≡ a → Ordered (x ∷ []) (c ∷ []) q → q ≡ 1 → Ordered zs ws r → Ordered (a ∷ zs) (c ∷ ws) r
number_further {a = a} {c} e o d rest = ordered_further (a ∷ []) (c ∷ []) ((ordered_at e o).same d) rest

-- An edge by another name of its number.
pub edge_at_equal : (children : List ℕ) (cuts : List ℤ) {a b : ℕ} {ys : List ℕ} {r : ℕ} → a ≡ b → Ordered (edge_at children cuts a) ys r → Ordered (edge_at children cuts b) ys r
edge_at_equal children cuts {ys = ys} {r} e o = subst (λ (i : ℕ). Ordered (edge_at children cuts i) ys r) e o

-- The edges from edge j on, of n.
module _ (child cut : ℕ → ℕ) where
  pub run_ends : (j n : ℕ) → n ≤ j → run child cut j (n - j) ≡ []
  unfolding run
  run_ends j n h = let a : n - j ≡ 0 = omega arith in ap (run child cut j) a

  pub run_edge : (j n : ℕ) → j < n → run child cut j (n - j) ≡ child j ∷ (cut j ∷ run child cut (j + 1) (n - (j + 1)))
  unfolding run
  run_edge j n h = let a : n - j ≡ suc (n - (j + 1)) = omega arith in ap (run child cut j) a ∙ ap (λ (i : ℕ). child j ∷ (cut j ∷ run child cut i (n - (j + 1)))) (sym (add-one j))

  -- all edges: the first two, and the others
  pub run_two : (n : ℕ) → 2 ≤ n → run child cut 0 n ≡ child 0 ∷ (cut 0 ∷ (child 1 ∷ (cut 1 ∷ run child cut 2 (n - 2))))
  run_two n h = (let a : n ≡ n - 0 = omega arith in ap (run child cut 0) a) ∙ (run_edge 0 n (omega arith) ∙ ap (λ (l : List ℕ). child 0 ∷ (cut 0 ∷ l)) (run_edge 1 n (omega arith)))

-- One edge more is compared.
module _ (child cut child' cut' : ℕ → ℕ) (j n : ℕ) (h : j < n) {r : ℕ} (o : Ordered (child j ∷ (cut j ∷ [])) (child' j ∷ (cut' j ∷ [])) r) where
  pub edge_decided : (r ≡ 1 → ⊥) → Ordered (run child cut j (n - j)) (run child' cut' j (n - j)) r
  edge_decided d = ordered_equal (sym (run_edge child cut j n h)) (sym (run_edge child' cut' j n h)) (ordered_decided (child j ∷ (cut j ∷ [])) (child' j ∷ (cut' j ∷ [])) (run child cut (j + 1) (n - (j + 1))) (run child' cut' (j + 1) (n - (j + 1))) refl o d)

  pub edge_further : r ≡ 1 → {q : ℕ} → Ordered (run child cut (j + 1) (n - (j + 1))) (run child' cut' (j + 1) (n - (j + 1))) q → Ordered (run child cut j (n - j)) (run child' cut' j (n - j)) q
  edge_further d rest = ordered_equal (sym (run_edge child cut j n h)) (sym (run_edge child' cut' j n h)) (ordered_further (child j ∷ (cut j ∷ [])) (child' j ∷ (cut' j ∷ [])) (o.same d) rest)

-- How the edges of node n from edge j on stand to those of a node under construction.
abbrev pub EdgesFrom : Store → ℕ → ℕ → ℕ → built.Edges → ℕ → ℕ → Type 0
EdgesFrom st n v s es j o = Ordered (run (λ i. kid_at st.children (first_at st.nodes n + i)) (λ i. cut_position (cut_at st.cuts (first_at st.nodes n + i))) j (es.len - j)) (run (λ i. under s (child_in es i)) (key_in v es) j (es.len - j)) o

module _ (st : Store) (n v s : ℕ) (es : built.Edges) where
  pub edges_done : (j : ℕ) → es.len ≤ j → EdgesFrom st n v s es j 1
  edges_done j h = ordered_same (run_ends _ _ j es.len h ∙ sym (run_ends _ _ j es.len h))

  module _ (j : ℕ) (l : j < es.len) {first c k r : ℕ} (p : first ≡ first_at st.nodes n) (q : c ≡ under s (child_in es j)) (t : k ≡ key_in v es j) (o : Ordered (edge_at st.children st.cuts (first + j)) (c ∷ (k ∷ [])) r) where
    edge : Ordered (edge_at st.children st.cuts (first_at st.nodes n + j)) (under s (child_in es j) ∷ (key_in v es j ∷ [])) r
    edge = subst (λ (i : ℕ). Ordered (edge_at st.children st.cuts (first_at st.nodes n + j)) (under s (child_in es j) ∷ (i ∷ [])) r) t (subst (λ (i : ℕ). Ordered (edge_at st.children st.cuts (first_at st.nodes n + j)) (i ∷ (k ∷ [])) r) q (edge_at_equal st.children st.cuts (ap (λ (i : ℕ). i + j) p) o))

    pub edges_decided : (r ≡ 1 → ⊥) → EdgesFrom st n v s es j r
    edges_decided d = edge_decided _ _ _ _ j es.len l edge d

    pub edges_further : r ≡ 1 → {x : ℕ} → EdgesFrom st n v s es (j + 1) x → EdgesFrom st n v s es j x
    edges_further d rest = edge_further _ _ _ _ j es.len l edge d rest

-- A front, number by number.
pub front_is : {f : Front} {v count a b c d : ℕ} → f.variable ≡ v → f.count ≡ count → f.child0 ≡ a → f.cut0 ≡ b → f.child1 ≡ c → f.cut1 ≡ d → front_of f ≡ v ∷ (count ∷ (a ∷ (b ∷ (c ∷ (d ∷ [])))))
front_is g h p q r s = λ i. g i ∷ (h i ∷ (p i ∷ (q i ∷ (r i ∷ (s i ∷ [])))))

pub front_in_lem : (v s : ℕ) (es : built.Edges) {f : Front} → front_of f ≡ (v ∷ (es.len ∷ (under s (child_in es 0) ∷ (cond (is_range v && ltb (0 + 1) es.len) (cut_in es 0) zero_cut ∷ (under s (child_in es 1) ∷ (cond (is_range v && ltb (1 + 1) es.len) (cut_in es 1) zero_cut ∷ [])))))) → front_of f ≡ front_in v s es
unfolding key_in
front_in_lem v s es e = e

-- A stored node by its front and its other edges,
pub key_front : (st : Store) (n : ℕ) → 2 ≤ count_at st.nodes n → key_at st n ≡ hash_at st n ∷ (front_at st n ++ rest_at st n (count_at st.nodes n))
unfolding key_at
key_front st n h = ap (λ (l : List ℕ). hash_at st n ∷ (var_at st.nodes n ∷ (count_at st.nodes n ∷ l))) (run_two child end (count_at st.nodes n) h ∙ ap (λ (i : ℕ). kid_at st.children i ∷ (cut_position (cut_at st.cuts i) ∷ (child 1 ∷ (end 1 ∷ rest_at st n (count_at st.nodes n))))) zeroth)
  where
    child : ℕ → ℕ
    child j = kid_at st.children (first_at st.nodes n + j)

    end : ℕ → ℕ
    end j = cut_position (cut_at st.cuts (first_at st.nodes n + j))

    zeroth : first_at st.nodes n + 0 ≡ first_at st.nodes n
    zeroth = omega arith

-- and a node under construction.
module _ (v s : ℕ) (es : built.Edges) {f : Front} (front : front_of f ≡ front_in v s es) where
  pub content_front : 2 ≤ es.len → content_of v s es ≡ fronted (hash_in v s es es.len) f (rest_in v s es)
  unfolding content_of
  content_front h = ap (λ (l : List ℕ). hash_in v s es es.len ∷ (v ∷ (es.len ∷ l))) (run_two (λ j. under s (child_in es j)) (key_in v es) es.len h) ∙ ap (λ (l : List ℕ). hash_in v s es es.len ∷ (l ++ rest_in v s es)) (sym front)

  -- A node with this front has as many edges.
  pub front_count : (st : Store) (n : ℕ) {h : ℕ} {rest : List ℕ} → key_at st n ≡ fronted h f rest → count_at st.nodes n ≡ es.len
  unfolding key_at
  front_count st n e = cc (e, front)
