-- Lent tables of which the used words stay: one continues the other. Assumes nothing.
use mathlib.Core.Path.{◌≡◌, refl, ◌∙◌, subst}
use mathlib.Core.List.{List}
use mathlib.Core.Logic.{⊎_elim}
use Prim.Native.Nat.{ℕ, zero, suc, ◌≤◌}
use native.Mathlib.Omega.{arith}
use native.Mathlib.Nat.{eq-or-lt_of_le}
use lib.ListN.{length}
use Rattle.diagram.specs.Table.{Table, Continues, same, more}
use Rattle.table.specs.Layout.{Lengths, Store}
use Rattle.table.specs.Held.{node_at, held}
use Rattle.table.proofs.Promises.{counts_what_is_held, fits_its_room}
use Rattle.making.proofs.Frames.{Agree, held_agrees}
use Rattle.table.specs.declared.lent.Used.{Used}
use Rattle.making.specs.Outcome.{Lent, Stays, table_of}

-- Only lengths are allowed or not.
pub allowed_same : {a b c d a' b' c' d' : ℕ} → Lengths a b c d → a' ≡ a → b' ≡ b → c' ≡ c → d' ≡ d → Lengths a' b' c' d'
allowed_same l p q r s = rw (p, q, r, s) l

-- The used edges are within the room.
pub edges_inside : {h : Used} {st : Store} {index : List ℕ} → Lent h st index → h.edges ≤ length st.children
edges_inside {h} {st} {index} l = omega (arith, (fits_its_room st index h.nodes l.sound).edges_fit, (counts_what_is_held st index h.nodes l.sound).1, l.edges)

module _ {h : Used} {st : Store} where
  pub stays_refl : Stays h st h st
  stays_refl = record {
    long = refl;
    wide = refl;
    nodes_more = omega arith;
    edges_more = omega arith;
    word = λ i l. refl;
    child = λ i l. refl;
    cut = λ i l. refl;
  }

module _ {h i j : Used} {st : Store} {st' : Store} {st'' : Store} where
  pub stays_trans : Stays h st i st' → Stays i st' j st'' → Stays h st j st''
  stays_trans a b = record {
    long = b.long ∙ a.long;
    wide = b.wide ∙ a.wide;
    nodes_more = omega (arith, a.nodes_more, b.nodes_more);
    edges_more = omega (arith, a.edges_more, b.edges_more);
    word = λ n l. b.word n (omega (arith, a.nodes_more)) ∙ a.word n l;
    child = λ n l. b.child n (omega (arith, a.edges_more)) ∙ a.child n l;
    cut = λ n l. b.cut n (omega (arith, a.edges_more)) ∙ a.cut n l;
  }

longer : (st : Store) (n m : ℕ) → n ≤ m → Continues (held st n) (held st m)
unfolding held
longer st n zero k = let e : n ≡ 0 = omega arith in rw e same
longer st n (suc m) k = ⊎_elim (λ e. rw e same) (λ g. more (node_at st m) (longer st n m (omega arith))) (eq-or-lt_of_le k)

module _ {h h' : Used} {st : Store} {index : List ℕ} {st' : Store} (l : Lent h st index) (s : Stays h st h' st') where
  pub stays_agree : Agree h.nodes h.edges st st'
  stays_agree = record { word = s.word; child = s.child; cut = s.cut }

  -- The old nodes are still held,
  pub held_still : held st' h.nodes ≡ table_of h st
  held_still = held_agrees stays_agree l.sound.records.rules (omega (arith, l.edges)) h.nodes (omega arith)

  -- so the new table continues the old.
  pub stays_continues : Continues (table_of h st) (table_of h' st')
  stays_continues = subst (λ (t : Table). Continues t (table_of h' st')) held_still (longer st' h.nodes h'.nodes s.nodes_more)
