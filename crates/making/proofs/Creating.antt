-- The four ways in which `create_node` ends. Assumes nothing.
use mathlib.Core.Path.{◌≡◌, refl, sym, ◌∙◌, ap, subst}
use mathlib.Core.Bool.{true, false}
use mathlib.Core.List.{List, ◌∷◌}
use Prim.Native.Nat.{ℕ, zero, suc, ◌+◌, ◌-◌, ◌*◌, ◌≤◌, ◌<◌}
use native.Mathlib.Omega.{arith}
use lib.ListN.{length}
use Rattle.ids.specs.Id.{sign, under}
use Rattle.ids.specs.declared.NodeId.{NodeId}
use Rattle.diagram.specs.Shape.{Each, Reduced, run}
use Rattle.diagram.specs.Table.{variables, top_of, Table, Node}
use Rattle.diagram.specs.Sound.{Child}
use Rattle.diagram.specs.Cofactor.{map}
use Rattle.diagram.specs.Room.{Fits}
use Rattle.algebra.specs.Making.{find, intern, settle, first_sign}
use Rattle.algebra.specs.Overlay.{merge}
use Rattle.algebra.proofs.Making.{find_found}
use Rattle.algebra.proofs.Overlays.{reduced_merge, each_merge}
use Rattle.table.specs.Layout.{most_nodes, room, Store}
use Rattle.table.proofs.Laws.{not_false_and_true}
use Rattle.table.proofs.Scan.{table_length}
use Rattle.table.proofs.Promises.{counts_what_is_held}
use Rattle.merging.proofs.Fitting.{intern_added, intern_found}
use Rattle.making.specs.declared.edges.Edges as built
use Rattle.table.specs.declared.lent.Used.{Used}
use Rattle.making.specs.Building.{Building, child_in, cut_in, pieces_of, node_of}
use Rattle.making.specs.Outcome.{Lent, Creates, Added, Buildable, Mergeable, table_of}
use Rattle.making.proofs.Matching.{count_of_node}
use Rattle.making.proofs.Arrays.{cut_small}
use Rattle.making.proofs.Kept.{stays_refl}

-- One edge is no node,
settle_run : (t : Table) (v : ℕ) (c k : ℕ → ℕ) (m : ℕ) → m ≡ 0 → settle t v (run c k 0 m) ≡ (t, c 0)
unfolding settle run
settle_run t v c k zero e = refl
settle_run t v c k (suc m) e = absurd (omega arith)

-- and more are a node under the sign of the first.
intern_run : (t : Table) (v : ℕ) (c k : ℕ → ℕ) (m : ℕ) → 0 < m → settle t v (run c k 0 m) ≡ intern t (record { var = v; edges = map (under (sign (c 0))) (run c k 0 m) }) (sign (c 0))
unfolding settle run first_sign
intern_run t v c k zero h = absurd (omega arith)
intern_run t v c k (suc m) h = refl

id_under : (n s : ℕ) → s < 2 → under s (n * 2) ≡ 2 * n + s
id_under n zero h = omega arith
id_under n (suc zero) h = omega arith
id_under n (suc (suc s)) h = absurd (omega arith)

module _ {h : Used} {st : Store} {index : List ℕ} (l : Lent h st index) (v : ℕ) (es : built.Edges) where
  abbrev t : Table
  t = table_of h st

  -- Refs are small.
  pub ref_small : (nd : Node) (at : ℕ) → at ≡ find t nd → at ≤ most_nodes
  ref_small nd at e = omega (arith, (find_found t nd).inside, table_length st h.nodes, l.sound.records.fits, l.allowed.nodes_at_most)

  -- The answer with a node that the table has, or a terminal.
  pub kept : {id : NodeId} {n : ℕ} → id.0 ≡ n → {want : Table × ℕ} → want ≡ (t, n) → Creates h want (record { ok = true; id = id; used = h }) st index st index
  kept k e = record {
    outcome = record {
      lent = l;
      stays = stays_refl;
      table = λ q. sym (ap (λ (x : Table × ℕ). x.0) e);
      id = λ q. k ∙ sym (ap (λ (x : Table × ℕ). x.1) e);
      full = λ q. absurd (not_false_and_true q refl);
    };
    untouched = λ q. absurd (not_false_and_true q refl);
  }

  pub dropped : es.len ≡ 1 → (id : NodeId) → id.0 ≡ child_in es 0 → Creates h (settle t v (pieces_of es)) (record { ok = true; id = id; used = h }) st index st index
  dropped one id e = kept e (settle_run t v (child_in es) (cut_in es) (es.len - 1) (omega arith))

  module _ (many : 2 ≤ es.len) {lead : ℕ} (first : lead ≡ child_in es 0) where
    abbrev s : ℕ
    s = sign lead

    as_node : settle t v (pieces_of es) ≡ intern t (node_of v s es) s
    as_node = intern_run t v (child_in es) (cut_in es) (es.len - 1) (omega arith) ∙ ap (λ (x : ℕ). intern t (node_of v (sign x) es) (sign x)) (sym first)

    pub found_one : (at : ℕ) → 0 < at → at ≡ find t (node_of v s es) → {id : NodeId} → id.0 ≡ under s (at * 2) → Creates h (settle t v (pieces_of es)) (record { ok = true; id = id; used = h }) st index st index
    found_one zero g e k = absurd (omega arith)
    found_one (suc m) g e k = kept k (as_node ∙ (intern_found t (node_of v s es) s m (sym e) ∙ ap (λ (x : ℕ). (t, x)) (sym (id_under (suc m) s (omega arith)))))

    module _ (absent : find t (node_of v s es) ≡ 0) where
      wanted : settle t v (pieces_of es) ≡ (node_of v s es ∷ t, 2 * suc (length t) + s)
      wanted = as_node ∙ intern_added t (node_of v s es) s absent

      pub no_room : ((h.nodes < room st.nodes) × (h.edges + es.len ≤ length st.children) → ⊥) → (id : NodeId) → Creates h (settle t v (pieces_of es)) (record { ok = false; id = id; used = h }) st index st index
      no_room g id = record {
        outcome = record {
          lent = l;
          stays = stays_refl;
          table = λ q. absurd (not_false_and_true refl q);
          id = λ q. absurd (not_false_and_true refl q);
          full = λ q f. g (over (subst (λ (x : Table × ℕ). Fits (room st.nodes) (length st.children) x.0) wanted f));
        };
        untouched = λ q. record { same = refl; index_same = refl };
      }
        where
          over : Fits (room st.nodes) (length st.children) (node_of v s es ∷ t) → (h.nodes < room st.nodes) × (h.edges + es.len ≤ length st.children)
          over f = (omega (arith, f.nodes_fit, table_length st h.nodes), omega (arith, f.edges_fit, count_of_node v s es (omega arith), (counts_what_is_held st index h.nodes l.sound).1, l.edges))

      pub added_one : {h' : Used} {st' : Store} {index' : List ℕ} → Added h (node_of v s es) h' st st' index' → {id : NodeId} → id.0 ≡ under s (h'.nodes * 2) → Creates h (settle t v (pieces_of es)) (record { ok = true; id = id; used = h' }) st index st' index'
      added_one {h'} {st'} {index'} a k = record {
        outcome = record {
          lent = a.lent;
          stays = a.stays;
          table = λ x. a.table ∙ sym (ap (λ (y : Table × ℕ). y.0) wanted);
          id = λ x. k ∙ (id_under h'.nodes s (omega arith) ∙ (same_id ∙ sym (ap (λ (y : Table × ℕ). y.1) wanted)));
          full = λ x. absurd (not_false_and_true x refl);
        };
        untouched = λ x. absurd (not_false_and_true x refl);
      }
        where
          same_id : 2 * h'.nodes + s ≡ 2 * suc (length t) + s
          same_id = let b = a.used in let d = table_length st h.nodes in omega arith

-- What the hash of their edges asks.
pub hash_asks : {t : Table} {v : ℕ} {es : built.Edges} → Buildable t v es → Building es × (v < variables) × ((j : ℕ) → j + 1 < es.len → cut_in es j < 8589934593)
hash_asks {v = v} {es = es} b = (b.building, b.known, cut_small v es b.reduced)

-- Edges that are merged, of edges that could be.
module _ {t : Table} {v : ℕ} {es : built.Edges} (k : Mergeable t v es) {r : built.Edges} (e : Building r × (pieces_of r ≡ merge (pieces_of es))) where
  pub merged_builds : Buildable t v r
  merged_builds = record {
    building = e.0;
    known = k.known;
    reduced = subst (Reduced 0 (top_of v)) (sym e.1) (reduced_merge 0 (top_of v) (pieces_of es) k.rises);
    kids = subst (Each (Child t (suc v))) (sym e.1) (each_merge (Child t (suc v)) (pieces_of es) k.kids);
  }
