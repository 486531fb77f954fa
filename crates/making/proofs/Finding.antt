-- Finding a node: what the search in its bucket ends with. Assumes nothing.
use mathlib.Core.Path.{◌≡◌, refl, sym, ◌∙◌, ap, subst}
use mathlib.Core.Bool.{true}
use mathlib.Core.List.{List, ◌∷◌}
use Prim.Native.Nat.{ℕ, zero, suc, ◌-◌, ◌≤◌, ◌<◌}
use native.Mathlib.Omega.{arith}
use lib.ListN.{length}
use Rattle.diagram.specs.Shape.{Reduced}
use Rattle.diagram.specs.Table.{top_of, Node, Table, at}
use Rattle.diagram.specs.Sound.{Sound}
use Rattle.diagram.proofs.Facts.{at_inj}
use Rattle.algebra.specs.Making.{find}
use Rattle.algebra.proofs.Making.{find_found}
use Rattle.chains.specs.Lexical.{less}
use Rattle.chains.proofs.Lexical.{less_skip}
use Rattle.chains.proofs.Inserted.{place_new}
use Rattle.table.specs.Layout.{count_at, room, Store}
use Rattle.table.specs.Indexed.{key_at, bucket_at}
use Rattle.table.specs.Lent.{SoundLent}
use Rattle.table.specs.Held.{node_at, held}
use Rattle.table.proofs.Laws.{scaled_lt}
use Rattle.table.proofs.Bridge.{at_held, sound_held}
use Rattle.table.proofs.Scan.{table_length}
use Rattle.making.specs.declared.chain.Front.{Front}
use Rattle.making.specs.declared.chain.Spot.{Spot}
use Rattle.making.specs.declared.edges.Edges as built
use Rattle.making.specs.Building.{pieces_of, node_of, hash_in, content_of}
use Rattle.making.specs.Seeking.{Ordered, rest_at, front_of, rest_in, fronted, bucket_of, Low, High, Place, Passed, Sought, Finds}
use Rattle.making.proofs.Hashing.{hash_in_lt}
use Rattle.making.proofs.Matching.{matches_node, node_matches, bucket_matches, content_matches, matches_content}
use Rattle.making.proofs.Fronts.{front_in, content_front, front_count}
use Rattle.making.proofs.Walked.{walks_within, walks_stop}

-- a sound table finds a node that it has at its number, and no other
pub found_at : (t : Table) (nd : Node) (n : ℕ) → Sound t → n < length t → at t (suc n) ≡ nd → find t nd ≡ suc n
found_at t nd n z l e = go (find t nd) refl
  where
    go : (r : ℕ) → find t nd ≡ r → find t nd ≡ suc n
    go zero q = absurd ((find_found t nd).absent q (suc n) (omega arith) (omega arith) e)
    go (suc r) q = at_inj t z (find t nd) (suc n) (find_found t nd).inside (omega arith) ((find_found t nd).there (omega (arith, q)) ∙ sym e)

pub found_none : (t : Table) (nd : Node) → ((n : ℕ) → n < length t → at t (suc n) ≡ nd → ⊥) → find t nd ≡ 0
found_none t nd h = go (find t nd) refl
  where
    go : (r : ℕ) → find t nd ≡ r → find t nd ≡ 0
    go zero q = q
    go (suc r) q = absurd (h r (omega (arith, q, (find_found t nd).inside)) (ap (at t) (sym q) ∙ (find_found t nd).there (omega (arith, q))))

-- and so does a lent table
module _ (st : Store) (u : ℕ) (nd : Node) where
  pub found_record : (index : List ℕ) (n : ℕ) → SoundLent st index u → n < u → node_at st n ≡ nd → find (held st u) nd ≡ suc n
  found_record index n z l e = found_at (held st u) nd n (sound_held st index u z) (omega (arith, table_length st u)) (at_held st u n l ∙ e)

  pub found_nothing : ((n : ℕ) → n < u → node_at st n ≡ nd → ⊥) → find (held st u) nd ≡ 0
  found_nothing h = found_none (held st u) nd (λ n l e. let g : n < u = omega (arith, table_length st u) in h n g (sym (at_held st u n g) ∙ e))

-- A node that has a place is not there.
pub place_absent : {st : Store} {index : List ℕ} {u p q : ℕ} (v s : ℕ) (es : built.Edges) → SoundLent st index u → 1 ≤ es.len → Place st u (bucket_of st (hash_in v s es es.len)) (content_of v s es) p q → find (held st u) (node_of v s es) ≡ 0
place_absent {st} {u = u} v s es z some w = found_nothing st u (node_of v s es) (λ n l e.
    let m = node_matches (z.records.rules n l) some e in
    place_new (key_at st) (content_of v s es) w n l (bucket_matches m) (content_matches m))

-- The search for a node under construction, and what it ends with.
module _ {st : Store} {index : List ℕ} {u : ℕ} (z : SoundLent st index u) (some : 1 ≤ room st.nodes) (v s : ℕ) (es : built.Edges) (two : 2 ≤ es.len) (red : Reduced 0 (top_of v) (pieces_of es)) {h : ℕ} (hashed : h ≡ hash_in v s es es.len) {f : Front}
    (front : front_of f ≡ front_in v s es) where
  abbrev new : List ℕ
  new = fronted h f (rest_in v s es)

  whole : content_of v s es ≡ new
  whole = content_front v s es front two ∙ ap (λ (i : ℕ). fronted i f (rest_in v s es)) (sym hashed)

  b_lt : bucket_of st h < room st.nodes
  b_lt = scaled_lt h (room st.nodes) (omega (arith, hashed, hash_in_lt v s es es.len)) some

  -- a place for the content is that of the node, which is not there
  pub find_placed : {r : Spot} → r.at ≡ 0 → Place st u (bucket_of st h) new r.before r.behind → Finds st u v s es r
  find_placed {r} e w =
      let k = subst (λ (c : List ℕ). Place st u (bucket_of st (hash_in v s es es.len)) c r.before r.behind) (sym whole) (subst (λ (i : ℕ). Place st u (bucket_of st i) new r.before r.behind) hashed w) in
      record { at_is = e ∙ sym (place_absent v s es z (omega arith) k); placed = λ d. k }

  module _ {r : Spot} (w : Sought st index u h f (rest_in v s es) r) where
    pub find_none : r.at ≡ 0 → Finds st u v s es r
    find_none e = find_placed e (w.placed e)

    -- a node with the front, of which the other edges tell the rest
    module _ (l : 0 < r.at) where
      at_node : key_at st (r.at - 1) ≡ fronted h f (rest_at st (r.at - 1) (count_at st.nodes (r.at - 1)))
      at_node = w.front (r.at - 1) (omega arith)

      pub find_within : r.at ≤ u
      find_within = (walks_within z (bucket_of st h) b_lt new l (w.walks l)).0

      pub find_count : count_at st.nodes (r.at - 1) ≡ es.len
      find_count = front_count v s es front st (r.at - 1) at_node

      as_many : key_at st (r.at - 1) ≡ fronted h f (rest_at st (r.at - 1) es.len)
      as_many = at_node ∙ ap (λ (c : ℕ). fronted h f (rest_at st (r.at - 1) c)) find_count

      pub find_same : rest_at st (r.at - 1) es.len ≡ rest_in v s es → Finds st u v s es r
      find_same e = record {
        at_is = (let a : r.at ≡ suc (r.at - 1) = omega arith in a) ∙ sym (found_record st u (node_of v s es) index (r.at - 1) z (omega (arith, find_within)) (matches_node two red (matches_content (as_many ∙ (ap (fronted h f) e ∙ sym whole)))));
        placed = λ d. absurd (omega arith);
      }

      module _ {o : ℕ} (c : Ordered (rest_at st (r.at - 1) es.len) (rest_in v s es) o) where
        low : o ≡ 0 → Low st new (r.at - 1)
        low e = subst (λ (k : List ℕ). less k new ≡ true) (sym as_many) (less_skip (h ∷ front_of f) (rest_at st (r.at - 1) es.len) (rest_in v s es) ∙ c.before e)

        high : 1 < o → High st new (r.at - 1)
        high e = subst (λ (k : List ℕ). less new k ≡ true) (sym as_many) (less_skip (h ∷ front_of f) (rest_in v s es) (rest_at st (r.at - 1) es.len) ∙ c.behind e)

        pub find_passed : o ≡ 0 → Passed st u (bucket_of st h) new r.at
        find_passed e m d =
            let i : r.at - 1 ≡ m = omega arith in
            let g = walks_within z (bucket_of st h) b_lt new l (w.walks l) in
            (omega (arith, g.0), subst (λ (n : ℕ). bucket_at st n ≡ bucket_of st h) i g.1, subst (Low st new) i (low e))

        pub find_stopped : 1 < o → Finds st u v s es (record { at = 0; before = r.before; behind = r.at })
        find_stopped e = find_placed refl (walks_stop z (bucket_of st h) b_lt new l (w.walks l) (high e))
