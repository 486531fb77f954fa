-- The nodes of a sound lent table are a sound table of the mathematics.
-- Assumes nothing.
use mathlib.Core.Path.{◌≡◌, refl, sym, ◌∙◌, ap, subst}
use mathlib.Core.Bool.{Bool, true, false, cond}
use mathlib.Core.Logic.{◌⊎◌, inl, inr, ⊎_elim}
use mathlib.Core.List.{List, ◌∷◌}
use Prim.Native.Nat.{ℕ, zero, suc, ◌+◌, ◌-◌, ◌/◌, ◌%◌, ◌≤◌, ◌<◌, ◌^◌}
use native.Mathlib.Omega.{arith}
use native.Mathlib.Decide.{ℕ_discrete}
use borrow.Author.Tests.{lt-ltb, le-ltb, ltb-true}
use lib.Dec.{ltb}
use lib.ListN.{length}
use lib.IntN.{ℤ, pos, negsuc}
use Rattle.diagram.specs.Pieces.{Pieces, last, cut}
use Rattle.diagram.specs.Shape.{first, count, Reduced, Each, run}
use Rattle.diagram.specs.Table.{Node, Table, at, top_of}
use Rattle.diagram.specs.Sound.{Child, Extends, Sound}
use Rattle.table.specs.Layout.{var_at, count_at, first_at, kid_at, cut_at, cut_position, Store}
use Rattle.table.specs.Lent.{Stands, Blank, Rules, SameRun, SameRecord, SoundLent}
use Rattle.table.specs.Held.{edges_from, edges_at, node_at, held}
use Rattle.table.specs.Checking.{below, Climbs}
use Rattle.diagram.proofs.Lookup as lookup
use Rattle.diagram.proofs.Numbered.{run_shift}
use Rattle.diagram.proofs.Readings.{range_top, bool_top}
use Rattle.table.proofs.Laws as laws
use Rattle.table.proofs.CutPositions.{climbs}
use Rattle.table.proofs.Scan.{table_length}

pub cut_position_le : (z : ℤ) → cut_position z ≤ 8589934592
cut_position_le (pos n) = go (ltb n 4294967296) refl
  where
    go : (b : Bool) → ltb n 4294967296 ≡ b → cond b (n + 4294967297) 0 ≤ 8589934592
    go true e = omega (arith, ltb-true n 4294967296 e)
    go false e = omega arith
cut_position_le (negsuc n) = omega arith

-- a cut is known by its cutPosition
pos_position : (n : ℕ) → 0 < cut_position (pos n) → cut_position (pos n) ≡ n + 4294967297
pos_position n = go (ltb n 4294967296)
  where
    go : (b : Bool) → 0 < cond b (n + 4294967297) 0 → cond b (n + 4294967297) 0 ≡ n + 4294967297
    go true h = refl
    go false h = absurd (omega arith)

pub cut_position_one : (y z : ℤ) → 0 < cut_position y → cut_position y ≡ cut_position z → y ≡ z
cut_position_one (pos m) (pos n) h e = let a = pos_position m h in let b = pos_position n (omega arith) in ap pos (let c : m ≡ n = omega arith in c)
cut_position_one (pos m) (negsuc n) h e = let a = pos_position m h in absurd (omega arith)
cut_position_one (negsuc m) (pos n) h e = let b = pos_position n (omega arith) in absurd (omega arith)
cut_position_one (negsuc m) (negsuc n) h e = ap negsuc (let c : m ≡ n = omega arith in c)

-- the jth child and cut of edges
unfoldable pub kid_of : (Pieces ℕ) → ℕ → ℕ
kid_of (last c) j = c
kid_of (cut c k e) zero = c
kid_of (cut c k e) (suc j) = kid_of e j

unfoldable pub cut_of : (Pieces ℕ) → ℕ → ℕ
cut_of (last c) j = 0
cut_of (cut c k e) zero = k
cut_of (cut c k e) (suc j) = cut_of e j

module _ (children : List ℕ) (cuts : List ℤ) where
  pub count_from : (i m : ℕ) → count (edges_from children cuts i m) ≡ suc m
  unfolding edges_from
  count_from i zero = refl
  count_from i (suc m) = ap suc (count_from (suc i) m)

  pub first_from : (i m : ℕ) → first (edges_from children cuts i m) ≡ kid_at children i
  unfolding edges_from
  first_from i zero = refl
  first_from i (suc m) = refl

  canon_from : (e n m j : ℕ) → suc (j + m) ≡ n → Climbs cuts e n → ((j : ℕ) → j + 1 < n → kid_at children (e + (j + 1)) ≡ kid_at children (e + j) → ⊥) → Reduced (below cuts e j) (2 ^ 33) (edges_from children cuts (e + j) m)
  unfolding edges_from
  canon_from e n zero zero q r d = omega arith
  canon_from e n zero (suc j) q r d = omega (arith, cut_position_le (cut_at cuts (e + j)))
  canon_from e n (suc m) j q r d =
      let a : e + suc j ≡ suc (e + j) = omega arith in
      let b : e + (j + 1) ≡ suc (e + j) = omega arith in
      let l = cut_position_le (cut_at cuts (e + j)) in (
        r.rise j (omega arith),
        omega arith,
        (λ x. d j (omega arith) (laws.get_d_at_equal children (e + (j + 1)) (suc (e + j)) b ∙ sym (x ∙ first_from (suc (e + j)) m))),
        subst (λ (i : ℕ). Reduced (cut_position (cut_at cuts (e + j))) (2 ^ 33) (edges_from children cuts i m)) a (canon_from e n m (suc j) (omega arith) r d),
      )

  each_from : (P : ℕ → Type 0) (i m : ℕ) → ((j : ℕ) → j ≤ m → P (kid_at children (i + j))) → Each P (edges_from children cuts i m)
  unfolding edges_from
  each_from P i zero h = let a : i + 0 ≡ i = omega arith in subst (λ (x : ℕ). P (kid_at children x)) a (h 0 (omega arith))
  each_from P i (suc m) h =
      let a : i + 0 ≡ i = omega arith in
      (subst (λ (x : ℕ). P (kid_at children x)) a (h 0 (omega arith)), each_from P (suc i) m (λ j l. let b : i + suc j ≡ suc i + j = omega arith in subst (λ (x : ℕ). P (kid_at children x)) b (h (suc j) (omega arith))))

  pub kid_from : (i m j : ℕ) → j ≤ m → kid_of (edges_from children cuts i m) j ≡ kid_at children (i + j)
  unfolding edges_from kid_of
  kid_from i zero zero l = let a : i ≡ i + 0 = omega arith in laws.get_d_at_equal children i (i + 0) a
  kid_from i zero (suc j) l = absurd (omega arith)
  kid_from i (suc m) zero l = let a : i ≡ i + 0 = omega arith in laws.get_d_at_equal children i (i + 0) a
  kid_from i (suc m) (suc j) l = let b : suc i + j ≡ i + suc j = omega arith in kid_from (suc i) m j (omega arith) ∙ laws.get_d_at_equal children (suc i + j) (i + suc j) b

  pub cut_from : (i m j : ℕ) → j < m → cut_of (edges_from children cuts i m) j ≡ cut_position (cut_at cuts (i + j))
  unfolding edges_from cut_of
  cut_from i zero j l = absurd (omega arith)
  cut_from i (suc m) zero l = let a : i ≡ i + 0 = omega arith in ap (λ (x : ℕ). cut_position (cut_at cuts x)) a
  cut_from i (suc m) (suc j) l = let b : suc i + j ≡ i + suc j = omega arith in cut_from (suc i) m j (omega arith) ∙ ap (λ (x : ℕ). cut_position (cut_at cuts x)) b

  -- equal edges come from equal runs
  pub same_runs : (a b m n : ℕ) → 1 ≤ m → 1 ≤ n → Climbs cuts a m → Climbs cuts b n → edges_from children cuts a (m - 1) ≡ edges_from children cuts b (n - 1) → (m ≡ n) × SameRun children cuts a b n
  same_runs a b m n hm hn ra rb q = (c, record { child = λ j l. sym (kid_from a (m - 1) j (omega (arith, c))) ∙ (ap (λ (e : (Pieces ℕ)). kid_of e j) q ∙ kid_from b (n - 1) j (omega arith)); cut = λ j l. go j l (laws.lt_or_le (j + 1) n) })
    where
      c : m ≡ n
      c = omega (arith, ap count q, count_from a (m - 1), count_from b (n - 1))

      go : (j : ℕ) → j < n → (j + 1 < n) ⊎ (n ≤ j + 1) → cut_at cuts (a + j) ≡ cut_at cuts (b + j)
      go j l (inl h) = cut_position_one (cut_at cuts (a + j)) (cut_at cuts (b + j)) (omega (arith, ra.rise j (omega (arith, c)))) (sym (cut_from a (m - 1) j (omega (arith, c))) ∙ (ap (λ (e : (Pieces ℕ)). cut_of e j) q ∙ cut_from b (n - 1) j (omega arith)))
      go j l (inr h) =
          let x : a + j ≡ a + (m - 1) = omega (arith, c) in
          let y : b + j ≡ b + (n - 1) = omega arith in
          ap (λ (i : ℕ). cut_at cuts i) x ∙ (ra.last ∙ sym (ap (λ (i : ℕ). cut_at cuts i) y ∙ rb.last))

  -- edges as a run
  edges_here : (i m : ℕ) → edges_from children cuts i m ≡ run (kid_at children) (λ j. cut_position (cut_at cuts j)) i m
  unfolding edges_from run
  edges_here i zero = refl
  edges_here i (suc m) = ap (cut (kid_at children i) (cut_position (cut_at cuts i))) (edges_here (suc i) m)

  pub edges_run : (e m : ℕ) → edges_from children cuts e m ≡ run (λ j. kid_at children (e + j)) (λ j. cut_position (cut_at cuts (e + j))) 0 m
  edges_run e m =
      edges_here e m
      ∙ run_shift (kid_at children) (λ j. kid_at children (e + j)) (λ j. cut_position (cut_at cuts j)) (λ j. cut_position (cut_at cuts (e + j))) e 0 m (λ j l. ap (λ (i : ℕ). kid_at children (e + i)) (plain j)) (λ j l. ap (λ (i : ℕ). cut_position (cut_at cuts (e + i))) (plain j))
    where
      plain : (j : ℕ) → j ≡ 0 + j
      plain j = omega arith

  pub range_edges : (v e n : ℕ) → v < 32 → edges_at children cuts v e n ≡ edges_from children cuts e (n - 1)
  unfolding edges_at
  range_edges v e n h = rw (lt-ltb v 32 h)

  pub bool_edges : (v e n : ℕ) → 32 ≤ v → edges_at children cuts v e n ≡ cut (kid_at children e) 1 (last (kid_at children (e + 1)))
  unfolding edges_at
  bool_edges v e n h = rw (le-ltb v 32 h)

record Fine (t : Table) (v : ℕ) (es : (Pieces ℕ)) : Type 0 where
  pub many : 2 ≤ count es
  pub rising : Reduced 0 (top_of v) es
  pub plain : first es % 2 ≡ 0
  pub children : Each (Child t (suc v)) es

module _ (st : Store) where
  pub at_held : (n i : ℕ) → i < n → at (held st n) (suc i) ≡ node_at st i
  unfolding held
  at_held zero i h = absurd (omega arith)
  at_held (suc n) i h = go (ℕ_discrete i n) (λ l. at_held n i l)
    where
      e : length (held st n) ≡ n
      e = table_length st n

      go : Dec (i ≡ n) → (i < n → at (held st n) (suc i) ≡ node_at st i) → at (node_at st n ∷ held st n) (suc i) ≡ node_at st i
      go (yes q) rec = ap (λ (j : ℕ). at (node_at st n ∷ held st n) (suc j)) (q ∙ sym e) ∙ (lookup.at_new (node_at st n) (held st n) ∙ ap (node_at st) (sym q))
      go (no q) rec = lookup.at_old (node_at st n) (held st n) (suc i) (omega (arith, e)) ∙ rec (omega arith)

  at_zero : (n : ℕ) → at (held st n) 0 ≡ lookup.end
  unfolding held at
  at_zero zero = refl
  at_zero (suc n) = lookup.at_old (node_at st n) (held st n) 0 (omega arith) ∙ at_zero n

  kid_ok : (n v c : ℕ) → v < 64 → Stands st.nodes n v c → Child (held st n) (suc v) c
  kid_ok n v c h (inl a) =
      let z : c / 2 ≡ 0 = omega arith in
      let q = ap (λ (x : Node). x.var) (ap (at (held st n)) z ∙ at_zero n) in
      (omega arith, omega (arith, q))
  kid_ok n v c h (inr a) = go (c / 2) refl
    where
      l : length (held st n) ≡ n
      l = table_length st n

      go : (r : ℕ) → c / 2 ≡ r → Child (held st n) (suc v) c
      go zero z =
          let q = ap (λ (x : Node). x.var) (ap (at (held st n)) z ∙ at_zero n) in
          (omega (arith, l), omega (arith, q))
      go (suc m) z =
          let q = ap (λ (x : Node). x.var) (ap (at (held st n)) z ∙ at_held n m (omega (arith, a.0))) in
          let w : c / 2 - 1 ≡ m = omega arith in
          let y = ap (var_at st.nodes) w in
          (omega (arith, l, a.0), omega (arith, q, y, a.1))

  fine_range : (n : ℕ) → Rules st n → var_at st.nodes n < 32 → Fine (held st n) (var_at st.nodes n) (edges_from st.children st.cuts (first_at st.nodes n) (count_at st.nodes n - 1))
  fine_range n r h =
      let e = first_at st.nodes n in
      let m = count_at st.nodes n in
      let a : e + 0 ≡ e = omega arith in
      let two = r.many in
      record {
        many = omega (arith, count_from st.children st.cuts e (m - 1));
        rising = subst (λ (x : ℕ). Reduced 0 x (edges_from st.children st.cuts e (m - 1))) (sym (range_top (var_at st.nodes n) h)) (subst (λ (x : ℕ). Reduced 0 (2 ^ 33) (edges_from st.children st.cuts x (m - 1))) a (canon_from st.children st.cuts e m (m - 1) 0 (omega arith) (climbs st n r h) r.edges.differ));
        plain = omega (arith, first_from st.children st.cuts e (m - 1), r.plain);
        children = each_from st.children st.cuts (Child (held st n) (suc (var_at st.nodes n))) e (m - 1) (λ j l. kid_ok n (var_at st.nodes n) (kid_at st.children (e + j)) r.known (r.edges.stand j (omega arith)));
      }

  fine_bool : (n : ℕ) → Rules st n → 32 ≤ var_at st.nodes n → Fine (held st n) (var_at st.nodes n) (cut (kid_at st.children (first_at st.nodes n)) 1 (last (kid_at st.children (first_at st.nodes n + 1))))
  fine_bool n r h =
      let e = first_at st.nodes n in
      let two = r.two h in
      let a : e + 0 ≡ e = omega arith in
      let t = bool_top (var_at st.nodes n) h in
      record {
        many = omega arith;
        rising = (omega arith, omega arith, (λ q. r.edges.differ 0 (omega arith) (sym q ∙ sym (laws.get_d_at_equal st.children (e + 0) e a))), omega arith);
        plain = r.plain;
        children = (
          subst (λ (x : ℕ). Child (held st n) (suc (var_at st.nodes n)) (kid_at st.children x)) a (kid_ok n (var_at st.nodes n) (kid_at st.children (e + 0)) r.known (r.edges.stand 0 (omega arith))),
          kid_ok n (var_at st.nodes n) (kid_at st.children (e + 1)) r.known (r.edges.stand 1 (omega arith)),
        );
      }

  fine : (n : ℕ) → Rules st n → Fine (held st n) (var_at st.nodes n) (node_at st n).edges
  fine n r = ⊎_elim (λ h. subst (Fine (held st n) (var_at st.nodes n)) (sym (range_edges st.children st.cuts (var_at st.nodes n) (first_at st.nodes n) (count_at st.nodes n) h)) (fine_range n r h))
      (λ h. subst (Fine (held st n) (var_at st.nodes n)) (sym (bool_edges st.children st.cuts (var_at st.nodes n) (first_at st.nodes n) (count_at st.nodes n) h)) (fine_bool n r h)) (laws.lt_or_le (var_at st.nodes n) 32)

  -- equal nodes are the same records
  same_node_lem : (m n : ℕ) → Rules st m → Rules st n → node_at st m ≡ node_at st n → SameRecord st m n
  same_node_lem m n rm rn q = ⊎_elim ranges booleans (laws.lt_or_le (var_at st.nodes n) 32)
    where
      v : var_at st.nodes m ≡ var_at st.nodes n
      v = ap (λ (x : Node). x.var) q

      es : (node_at st m).edges ≡ (node_at st n).edges
      es = ap (λ (x : Node). x.edges) q

      ranges : var_at st.nodes n < 32 → SameRecord st m n
      ranges h =
          let g : var_at st.nodes m < 32 = omega (arith, v) in
          let s = same_runs st.children st.cuts (first_at st.nodes m) (first_at st.nodes n) (count_at st.nodes m) (count_at st.nodes n) (omega (arith, rm.many)) (omega (arith, rn.many)) (climbs st m rm g) (climbs st n rn h)
          (sym (range_edges st.children st.cuts (var_at st.nodes m) (first_at st.nodes m) (count_at st.nodes m) g) ∙ (es ∙ range_edges st.children st.cuts (var_at st.nodes n) (first_at st.nodes n) (count_at st.nodes n) h)) in
          record { variable = v; count = s.0; edges = s.1 }

      booleans : 32 ≤ var_at st.nodes n → SameRecord st m n
      booleans h =
          let g : 32 ≤ var_at st.nodes m = omega (arith, v) in
          let s = sym (bool_edges st.children st.cuts (var_at st.nodes m) (first_at st.nodes m) (count_at st.nodes m) g) ∙ (es ∙ bool_edges st.children st.cuts (var_at st.nodes n) (first_at st.nodes n) (count_at st.nodes n) h) in
          let k = rn.two h in
          record { variable = v; count = rm.two g ∙ sym k; edges = record { child = λ j l. child j (omega arith) s; cut = λ j l. cuts_same j (omega arith) (rm.booleans g) (rn.booleans h) } }
        where
          a : ℕ
          a = first_at st.nodes m

          b : ℕ
          b = first_at st.nodes n

          child : (j : ℕ) → j < 2 → ◌≡◌ {A = (Pieces ℕ)} (cut (kid_at st.children a) 1 (last (kid_at st.children (a + 1)))) (cut (kid_at st.children b) 1 (last (kid_at st.children (b + 1)))) → kid_at st.children (a + j) ≡ kid_at st.children (b + j)
          child zero l s = let x : a + 0 ≡ a = omega arith in let y : b ≡ b + 0 = omega arith in let z : kid_at st.children a ≡ kid_at st.children b = cc in laws.get_d_at_equal st.children (a + 0) a x ∙ (z ∙ laws.get_d_at_equal st.children b (b + 0) y)
          child (suc zero) l s = cc
          child (suc (suc j)) l s = absurd (omega arith)

          cuts_same : (j : ℕ) → j < 2 → Blank st.cuts a → Blank st.cuts b → cut_at st.cuts (a + j) ≡ cut_at st.cuts (b + j)
          cuts_same zero l p q = let x : a + 0 ≡ a = omega arith in let y : b + 0 ≡ b = omega arith in ap (cut_at st.cuts) x ∙ (p.high ∙ sym (ap (cut_at st.cuts) y ∙ q.high))
          cuts_same (suc zero) l p q = p.low ∙ sym q.low
          cuts_same (suc (suc j)) l p q = absurd (omega arith)

  good : (n : ℕ) → ((m : ℕ) → m ≤ n → Rules st m) → ((m : ℕ) → m < n → SameRecord st m n → ⊥) → Extends (held st n) (node_at st n)
  good n rules single = let f = fine n (rules n (omega arith)) in record { known = (rules n (omega arith)).known; many = f.many; reduced = f.rising; plain = f.plain; kids = f.children; new = λ r l q. fresh r l q }
    where
      fresh : (r : ℕ) → r ≤ length (held st n) → at (held st n) r ≡ node_at st n → ⊥
      fresh zero l q = omega (arith, ap (λ (x : Node). x.var) (sym (at_zero n) ∙ q), (rules n (omega arith)).known)
      fresh (suc m) l q =
          let h : m < n = omega (arith, table_length st n) in
          single m h (same_node_lem m n (rules m (omega arith)) (rules n (omega arith)) (sym (at_held n m h) ∙ q))

  ordered_to : (index : List ℕ) (u : ℕ) → SoundLent st index u → (n : ℕ) → n ≤ u → Sound (held st n)
  unfolding held
  ordered_to index u s zero h = tt
  ordered_to index u s (suc n) h = (good n (λ m l. s.records.rules m (omega arith)) (λ m l. s.records.single m n l (omega arith)), ordered_to index u s n (omega arith))

  pub sound_held : (index : List ℕ) (u : ℕ) → SoundLent st index u → Sound (held st u)
  sound_held index u s = ordered_to index u s u (omega arith)
