-- Adding a node that the table does not have. Assumes nothing.
use mathlib.Core.Path.{◌≡◌, sym, ◌∙◌, ap, subst}
use mathlib.Core.List.{List, ◌∷◌}
use mathlib.Core.Logic.{◌⊎◌, inl, inr}
use Prim.Native.Nat.{ℕ, suc, ◌+◌, ◌*◌, ◌/◌, ◌≤◌, ◌<◌}
use native.Mathlib.Omega.{arith}
use lib.ListN.{length}
use Rattle.ids.specs.Id.{sign}
use Rattle.diagram.specs.Table.{variables, Node, most_edges}
use Rattle.table.specs.Layout.{most_nodes, most_edge_room, count_at, kid_at, cut_at, cut_position, room, start, Store}
use Rattle.table.specs.Indexed.{hash_at, bucket_at, key_at, Indexed}
use Rattle.table.specs.Lent.{Rules, SameRecord, SoundLent}
use Rattle.table.specs.Held.{node_at, held}
use Rattle.making.specs.Growing.{MoreWords, NodeIn}
use Rattle.making.specs.Seeking.{Place, Finds}
use Rattle.making.proofs.Frames.{Agree, start_agrees, node_agrees}
use Rattle.making.proofs.Grown.{indexed_grown, sound_grown, held_grown, start_grown}
use Rattle.making.specs.declared.chain.Spot.{Spot}
use Rattle.making.specs.declared.edges.Edges as built
use Rattle.table.specs.declared.lent.Used.{Used}
use Rattle.making.specs.Building.{Building, child_in, cut_in, node_of, hash_in, content_of}
use Rattle.making.specs.Storing.{EdgesPut, RecordPut}
use Rattle.making.specs.Outcome.{Lent, Buildable, Added, table_of}
use Rattle.making.proofs.Hashing.{hash_in_lt}
use Rattle.making.proofs.Matching.{Matches, matches_node, hash_matches, bucket_matches, content_matches}
use Rattle.making.proofs.Finding.{found_record}
use Rattle.making.proofs.Stored.{cut_position_put, put_rules}
use Rattle.making.proofs.Arrays.{cut_small}
use Rattle.making.proofs.Kept.{allowed_same, edges_inside}

-- A record that is the same as one that matches, matches.
same_matches : {st : Store} {m n v s : ℕ} {es : built.Edges} → SameRecord st m n → Matches st n v s es → Matches st m v s es
same_matches r x = record {
  variable = r.variable ∙ x.variable;
  count = r.count ∙ x.count;
  child = λ j l. r.edges.child j (omega (arith, x.count)) ∙ x.child j l;
  cut = λ j l. ap cut_position (r.edges.cut j (omega (arith, x.count))) ∙ x.cut j l;
}

module _ {h : Used} {st : Store} {index : List ℕ} {v lead : ℕ} {es : built.Edges} {hash : ℕ} {r : Spot}
    (pre : Lent h st index × Buildable (table_of h st) v es × (2 ≤ es.len) × (lead ≡ child_in es 0) × (hash ≡ hash_in v (sign lead) es es.len) × Finds st h.nodes v (sign lead) es r × (r.at ≡ 0) × (h.nodes < room st.nodes) × (h.edges + es.len ≤ length st.children)) where
  abbrev l : Lent h st index
  l = pre.0

  abbrev b : Buildable (table_of h st) v es
  b = pre.1

  hash_small : hash < 4294967296
  hash_small = omega (arith, pre.4, hash_in_lt v (sign lead) es es.len)

  -- What the edges are written by asks,
  pub put_edges_asks : Building es × (h.edges + es.len ≤ length st.children) × (length st.cuts ≡ length st.children) × ((j : ℕ) → j + 1 < es.len → cut_in es j < 8589934593)
  put_edges_asks = (b.building, pre.8, l.allowed.cut_each, cut_small v es b.reduced)

  module _ {count : ℕ} (many : count ≡ es.len) where
    -- and the record and its place: the nodes that it goes between are used ones.
    pub enter_asks : (length index ≡ room st.nodes * 4) × (room st.nodes ≤ most_nodes) × (h.nodes < room st.nodes) × (h.edges ≤ most_edge_room) × (v < variables) × (count ≤ most_edges) × (hash < 4294967296) × (r.before ≤ h.nodes) × (r.behind ≤ h.nodes)
    enter_asks = (l.allowed.indexed, l.allowed.nodes_at_most, pre.7, omega (arith, edges_inside l, l.allowed.edges_at_most), b.known, omega (arith, b.building.most), hash_small, (pre.5.placed pre.6).lower.within, (pre.5.placed pre.6).upper.within)

    module _ {h' : Used} {st' : Store} {index' : List ℕ} (entered : RecordPut st.nodes h.nodes v count h.edges st'.nodes × NodeIn (room st.nodes) h.nodes (hash * room st.nodes / 4294967296) r.before r.behind hash index index' × (h'.nodes ≡ h.nodes + 1) × (h'.edges ≡ h.edges + count))
        (p : EdgesPut st.children st.cuts h.edges v (sign lead) es st'.children st'.cuts) where
      abbrev u : ℕ
      u = h.nodes

      abbrev e : ℕ
      e = h.edges

      abbrev s : ℕ
      s = sign lead

      q : RecordPut st.nodes u v es.len e st'.nodes
      q = subst (λ (n : ℕ). RecordPut st.nodes u v n e st'.nodes) many entered.0

      agree : Agree u e st st'
      agree = record { word = λ i k. q.other i (inl k); child = λ i k. p.child_other i (inl k); cut = λ i k. p.cut_other i (inl k) }

      from : start st'.nodes u ≡ e
      from = start_agrees agree u (omega arith) ∙ sym l.edges

      rules : Rules st' u
      rules = put_rules b.known b.building pre.2 b.reduced b.kids (ap sign (sym pre.3)) q p (l.sound.records.no_node (u * 4 + 3) (omega arith)) from pre.8

      matches : Matches st' u v s es
      matches = record {
        variable = q.variable;
        count = q.counts;
        child = λ j k. ap (λ (i : ℕ). kid_at st'.children (i + j)) q.firsts ∙ p.child_is j k;
        cut = λ j k. ap (λ (i : ℕ). cut_position (cut_at st'.cuts (i + j))) q.firsts ∙ (ap cut_position (p.cut_is j k) ∙ cut_position_put v es b.reduced j k);
      }

      words : MoreWords u e (count_at st'.nodes u) st st'
      words = record {
        long = q.long;
        wide = p.wide;
        deep = p.deep;
        word = q.other;
        no_word = λ i g k. l.sound.records.no_node i g;
        child = λ i g. p.child_other i (span i g);
        no_child = λ i g k. l.sound.records.no_child i (omega (arith, l.edges));
        cut = λ i g. p.cut_other i (span i g);
        no_cut = λ i g k. l.sound.records.no_cut i (omega (arith, l.edges));
      }
        where
          span : (i : ℕ) → (i < e) ⊎ (e + count_at st'.nodes u ≤ i) → (i < e) ⊎ (e + es.len ≤ i)
          span i (inl g) = inl g
          span i (inr g) = inr (omega (arith, q.counts))

      same_room : room st'.nodes ≡ room st.nodes
      same_room = ap (λ (x : ℕ). x / 4) q.long

      bucket_is : hash * room st.nodes / 4294967296 ≡ bucket_at st' u
      bucket_is = let a = sym same_room in (λ k. pre.4 k * a k / 4294967296) ∙ sym (bucket_matches matches)

      hash_is : hash ≡ hash_at st' u
      hash_is = pre.4 ∙ sym (hash_matches matches)

      place : Place st u (bucket_at st' u) (key_at st' u) r.before r.behind
      place = subst (λ (c : List ℕ). Place st u (bucket_at st' u) c r.before r.behind) (sym (content_matches matches))
          (subst (λ (x : ℕ). Place st u x (content_of v s es) r.before r.behind) (ap (λ (x : ℕ). x * room st.nodes / 4294967296) (sym pre.4) ∙ bucket_is) (pre.5.placed pre.6))

      indexed : Indexed st' index' (suc u)
      indexed = indexed_grown l.sound l.edges words (omega arith) place (subst (λ (x : ℕ). NodeIn (room st.nodes) u x r.before r.behind (hash_at st' u) index index') bucket_is (subst (λ (x : ℕ). NodeIn (room st.nodes) u (hash * room st.nodes / 4294967296) r.before r.behind x index index') hash_is entered.1))

      node_is : node_at st' u ≡ node_of v s es
      node_is = matches_node pre.2 b.reduced matches

      alone : (m : ℕ) → m < u → SameRecord st' m u → ⊥
      alone m k r =
          let x = sym (node_agrees agree l.sound.records.rules (omega (arith, l.edges)) m k) ∙ matches_node pre.2 b.reduced (same_matches r matches) in
          omega (arith, pre.6, pre.5.at_is, found_record st u (node_of v s es) index m l.sound k x)

      pub added : Added h (node_of v (sign lead) es) h' st st' index'
      added =
          let a : suc u ≡ h'.nodes = omega arith in
          record {
            lent = record {
              allowed = allowed_same l.allowed q.long p.wide p.deep entered.1.broad;
              sound = subst (SoundLent st' index') a (sound_grown l.sound l.edges words (omega arith) rules alone indexed);
              edges = entered.3 ∙ ap (λ (n : ℕ). e + n) many ∙ sym (ap (start st'.nodes) (sym a) ∙ (start_grown l.sound l.edges words ∙ ap (λ (x : ℕ). e + x) q.counts));
            };
            stays = record {
              long = q.long;
              wide = p.wide;
              nodes_more = omega arith;
              edges_more = omega arith;
              word = agree.word;
              child = agree.child;
              cut = agree.cut;
            };
            used = sym a;
            table = ap (held st') (sym a) ∙ (held_grown l.sound l.edges words ∙ ap (λ (nd : Node). nd ∷ table_of h st) node_is);
          }
