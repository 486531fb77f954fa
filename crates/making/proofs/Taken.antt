-- A table that grew and from which the new nodes were taken back is the one it was, word for word. Assumes nothing.
use mathlib.Core.Path.{◌≡◌, refl, sym, ◌∙◌, ap, subst}
use mathlib.Core.Bool.{false}
use mathlib.Core.Logic.{⊎_elim}
use mathlib.Core.List.{List}
use Prim.Native.Nat.{ℕ, ◌*◌, ◌/◌}
use native.Mathlib.Omega.{arith}
use lib.ListN.{length, get_or}
use lib.Seq.{ext_get_or}
use lib.IntN.{pos}
use Rattle.ids.specs.declared.NodeId.{NodeId}
use Rattle.diagram.specs.Table.{Table}
use Rattle.diagram.specs.Room.{Fits}
use Rattle.table.specs.Layout.{kid_at, cut_at, room, start, Lengths, Store}
use Rattle.table.specs.Lent.{SoundLent}
use Rattle.table.proofs.Laws.{lt_or_le, not_false_and_true}
use Rattle.table.proofs.Determined.{same_store, same_index}
use Rattle.table.specs.declared.lent.Used.{Used}
use Rattle.making.specs.Outcome.{Lent, Stays, Outcome, Untouched, TakenBack}

-- the lengths of the cuts and of the index follow from those of the records and the children
pub cuts_as_long : {n c k i n' c' k' i' : ℕ} → Lengths n c k i → Lengths n' c' k' i' → c' ≡ c → k' ≡ k
cuts_as_long a b e = b.cut_each ∙ e ∙ sym a.cut_each

pub index_as_long : {n c k i n' c' k' i' : ℕ} → Lengths n c k i → Lengths n' c' k' i' → n' ≡ n → i' ≡ i
index_as_long a b e = b.indexed ∙ ap (λ (m : ℕ). m / 4 * 4) e ∙ sym a.indexed

-- Taken back to where it began, a table is as it was, word for word: it agrees with itself in the used words, and the others are zero.
module _ {h h' h'' : Used} {st : Store} {index : List ℕ} {st' st'' : Store} {index'' : List ℕ} (l : Lent h st index) (s : Stays h st h' st') (b : TakenBack h.nodes h' st' h'' st'' index'') where
  long : length st''.nodes ≡ length st.nodes
  long = sym b.stays.long ∙ s.long

  wide : length st''.children ≡ length st.children
  wide = sym b.stays.wide ∙ s.wide

  back : SoundLent st'' index'' h.nodes
  back = subst (SoundLent st'' index'') b.used_is b.lent.sound

  nodes_back : st''.nodes ≡ st.nodes
  nodes_back = ext_get_or 0 st''.nodes st.nodes long (λ i _. ⊎_elim
      (λ g. sym (b.stays.word i (omega (arith, b.used_is))) ∙ s.word i g)
      (λ g. back.records.no_node i g ∙ sym (l.sound.records.no_node i g)) (lt_or_le i (h.nodes * 4)))

  -- so its edges end where they did
  ends : start st''.nodes h.nodes ≡ h.edges
  ends = ap (λ (n : List ℕ). start n h.nodes) nodes_back ∙ sym l.edges

  edges_back : h''.edges ≡ h.edges
  edges_back = b.lent.edges ∙ (ap (start st''.nodes) b.used_is ∙ ends)

  children_back : st''.children ≡ st.children
  children_back = ext_get_or 0 st''.children st.children wide (λ i _. ⊎_elim
      (λ g. sym (b.stays.child i (omega (arith, edges_back))) ∙ s.child i g)
      (λ g. back.records.no_child i (omega (arith, ends)) ∙ sym (l.sound.records.no_child i (omega (arith, l.edges)))) (lt_or_le i h.edges))

  cuts_back : st''.cuts ≡ st.cuts
  cuts_back = ext_get_or (pos 0) st''.cuts st.cuts (cuts_as_long l.allowed b.lent.allowed wide) (λ i _. ⊎_elim
      (λ g. sym (b.stays.cut i (omega (arith, edges_back))) ∙ s.cut i g)
      (λ g. back.records.no_cut i (omega (arith, ends)) ∙ sym (l.sound.records.no_cut i (omega (arith, l.edges)))) (lt_or_le i h.edges))

  pub taken_back_untouched : Untouched st index st'' index''
  taken_back_untouched =
      let e : st'' ≡ st = same_store nodes_back children_back cuts_back in
      record { same = e; index_same = same_index st index'' index h.nodes (subst (λ (x : Store). SoundLent x index'' h.nodes) e back) l.sound (index_as_long l.allowed b.lent.allowed long) }

  -- So it is the outcome of an operation that found no room.
  pub outcome_when_taken_back : {want : Table × ℕ} (id : NodeId) → (Fits (room st.nodes) (length st.children) want.0 → ⊥) → Outcome h want (record { ok = false; id = id; used = h'' }) st st'' index''
  outcome_when_taken_back id f =
      let u = taken_back_untouched in
      record {
        lent = b.lent;
        stays = record {
          long = ap (λ (x : Store). length x.nodes) u.same;
          wide = ap (λ (x : Store). length x.children) u.same;
          nodes_more = omega (arith, b.used_is);
          edges_more = omega (arith, edges_back);
          word = λ i g. ap (λ (x : Store). get_or x.nodes i 0) u.same;
          child = λ i g. ap (λ (x : Store). kid_at x.children i) u.same;
          cut = λ i g. ap (λ (x : Store). cut_at x.cuts i) u.same;
        };
        table = λ q. absurd (not_false_and_true refl q);
        id = λ q. absurd (not_false_and_true refl q);
        full = λ q. f;
      }
