-- Two sound lent tables of the same lengths that mean the same table are the same, cell by cell.
-- Assumes nothing.
use mathlib.Core.Path.{◌≡◌, refl, sym, ◌∙◌, ap, subst}
use mathlib.Core.Logic.{◌⊎◌, inl, inr, ⊎_elim}
use mathlib.Core.List.{List}
use Prim.Native.Nat.{ℕ, zero, suc, ◌+◌, ◌-◌, ◌*◌, ◌/◌, ◌%◌, ◌≤◌, ◌<◌}
use native.Mathlib.Omega.{arith}
use lib.ListN.{length, get_or}
use lib.Seq.{ext_get_or}
use lib.IntN.{pos}
use Rattle.diagram.specs.Pieces.{Pieces, last, cut}
use Rattle.diagram.specs.Shape.{count}
use Rattle.diagram.specs.Table.{Node, Table, at}
use Rattle.table.specs.Layout.{var_at, count_at, first_at, kid_at, cut_at, room, start, cut_position, Store}
use Rattle.table.specs.Indexed.{key_at}
use Rattle.table.specs.Lent.{Rules, Blank, SoundLent}
use Rattle.table.specs.Held.{node_at, held}
use Rattle.table.proofs.Laws as laws
use Rattle.table.proofs.CutPositions.{climbs}
use Rattle.chains.proofs.Lexical.{by_strict}
use Rattle.chains.proofs.Rows.{row_one}
use Rattle.table.proofs.Scan.{table_length}
use Rattle.table.proofs.Bridge.{count_from, kid_of, kid_from, cut_of, cut_from, range_edges, bool_edges, at_held, cut_position_one}

-- where an edge stands
pub data Located (nodes : List ℕ) (u i : ℕ) : Type 0 where
  found : (n j : ℕ) → n < u → j < count_at nodes n → i ≡ start nodes n + j → Located nodes u i

pub locate : (nodes : List ℕ) (u i : ℕ) → i < start nodes u → Located nodes u i
unfolding start
locate nodes zero i h = absurd (omega arith)
locate nodes (suc u) i h = ⊎_elim (λ l. further (locate nodes u i l)) (λ g. found u (i - start nodes u) (omega arith) (omega arith) (omega arith)) (laws.lt_or_le i (start nodes u))
  where
    further : Located nodes u i → Located nodes (suc u) i
    further (found n j a b e) = found n j (omega arith) b e

-- what a record's node tells of its words
module _ (st : Store) (n : ℕ) (r : Rules st n) where
  pub count_node : count (node_at st n).edges ≡ count_at st.nodes n
  count_node = ⊎_elim (λ h. ap count (range_edges st.children st.cuts (var_at st.nodes n) (first_at st.nodes n) (count_at st.nodes n) h) ∙ (count_from st.children st.cuts (first_at st.nodes n) (count_at st.nodes n - 1) ∙ (let a = r.many in let e : suc (count_at st.nodes n - 1) ≡ count_at st.nodes n = omega arith in e)))
      (λ h. ap count (bool_edges st.children st.cuts (var_at st.nodes n) (first_at st.nodes n) (count_at st.nodes n) h) ∙ sym (r.two h)) (laws.lt_or_le (var_at st.nodes n) 32)

  pub kid_node : (j : ℕ) → j < count_at st.nodes n → kid_of (node_at st n).edges j ≡ kid_at st.children (start st.nodes n + j)
  unfolding kid_of
  kid_node j l = ⊎_elim (λ h. ap (λ (e : (Pieces ℕ)). kid_of e j) (range_edges st.children st.cuts (var_at st.nodes n) (first_at st.nodes n) (count_at st.nodes n) h) ∙ (kid_from st.children st.cuts (first_at st.nodes n) (count_at st.nodes n - 1) j (omega arith) ∙ to_start))
      (λ h. ap (λ (e : (Pieces ℕ)). kid_of e j) (bool_edges st.children st.cuts (var_at st.nodes n) (first_at st.nodes n) (count_at st.nodes n) h) ∙ (two j (omega (arith, r.two h)) ∙ to_start)) (laws.lt_or_le (var_at st.nodes n) 32)
    where
      to_start : kid_at st.children (first_at st.nodes n + j) ≡ kid_at st.children (start st.nodes n + j)
      to_start = ap (λ (i : ℕ). kid_at st.children (i + j)) r.packed

      two : (j : ℕ) → j < 2 → kid_of (cut (kid_at st.children (first_at st.nodes n)) 1 (last (kid_at st.children (first_at st.nodes n + 1)))) j ≡ kid_at st.children (first_at st.nodes n + j)
      two zero l = let a : first_at st.nodes n ≡ first_at st.nodes n + 0 = omega arith in laws.get_d_at_equal st.children (first_at st.nodes n) (first_at st.nodes n + 0) a
      two (suc zero) l = refl
      two (suc (suc j)) l = absurd (omega arith)

  -- a cut beside no last edge of a range node, by its cutPosition; any other is 0
  pub cut_position_node : (j : ℕ) → var_at st.nodes n < 32 → j + 1 < count_at st.nodes n → cut_of (node_at st n).edges j ≡ cut_position (cut_at st.cuts (start st.nodes n + j))
  cut_position_node j h l = ap (λ (e : (Pieces ℕ)). cut_of e j) (range_edges st.children st.cuts (var_at st.nodes n) (first_at st.nodes n) (count_at st.nodes n) h) ∙ (cut_from st.children st.cuts (first_at st.nodes n) (count_at st.nodes n - 1) j (omega arith) ∙ ap (λ (i : ℕ). cut_position (cut_at st.cuts (i + j))) r.packed)

  pub cut_position_some : (j : ℕ) → var_at st.nodes n < 32 → j + 1 < count_at st.nodes n → 0 < cut_position (cut_at st.cuts (start st.nodes n + j))
  cut_position_some j h l = let e = ap (λ (i : ℕ). cut_position (cut_at st.cuts (i + j))) r.packed in omega (arith, (climbs st n r h).rise j l, e)

  start_cut : (j : ℕ) → cut_at st.cuts (start st.nodes n + j) ≡ cut_at st.cuts (first_at st.nodes n + j)
  start_cut j = sym (ap (λ (i : ℕ). cut_at st.cuts (i + j)) r.packed)

  pub no_cut_last : (j : ℕ) → var_at st.nodes n < 32 → j < count_at st.nodes n → count_at st.nodes n ≤ j + 1 → cut_at st.cuts (start st.nodes n + j) ≡ pos 0
  no_cut_last j h l g = let a : first_at st.nodes n + j ≡ first_at st.nodes n + (count_at st.nodes n - 1) = omega arith in start_cut j ∙ (ap (cut_at st.cuts) a ∙ (r.ranges h).last)

  pub no_cut_bool : (j : ℕ) → 32 ≤ var_at st.nodes n → j < count_at st.nodes n → cut_at st.cuts (start st.nodes n + j) ≡ pos 0
  no_cut_bool j h l = start_cut j ∙ two j (omega (arith, r.two h)) (r.booleans h)
    where
      two : (j : ℕ) → j < 2 → Blank st.cuts (first_at st.nodes n) → cut_at st.cuts (first_at st.nodes n + j) ≡ pos 0
      two zero l b = let a : first_at st.nodes n + 0 ≡ first_at st.nodes n = omega arith in ap (cut_at st.cuts) a ∙ b.high
      two (suc zero) l b = b.low
      two (suc (suc j)) l b = absurd (omega arith)

module _ (st : Store) (index : List ℕ) (st' : Store) (index' : List ℕ) (u : ℕ)
    (s : SoundLent st index u) (s' : SoundLent st' index' u) (means : held st u ≡ held st' u) where
  node : (n : ℕ) → n < u → node_at st n ≡ node_at st' n
  node n l = sym (at_held st u n l) ∙ (ap (λ (t : Table). at t (suc n)) means ∙ at_held st' u n l)

  var : (n : ℕ) → n < u → var_at st.nodes n ≡ var_at st'.nodes n
  var n l = ap (λ (x : Node). x.var) (node n l)

  edges : (n : ℕ) → n < u → (node_at st n).edges ≡ (node_at st' n).edges
  edges n l = ap (λ (x : Node). x.edges) (node n l)

  counts : (n : ℕ) → n < u → count_at st.nodes n ≡ count_at st'.nodes n
  counts n l = sym (count_node st n (s.records.rules n l)) ∙ (ap count (edges n l) ∙ count_node st' n (s'.records.rules n l))

  starts : (n : ℕ) → n ≤ u → start st.nodes n ≡ start st'.nodes n
  unfolding start
  starts zero h = refl
  starts (suc n) h = let a = starts n (omega arith) in let b = counts n (omega arith) in omega arith

  word : (i : ℕ) → get_or st.nodes i 0 ≡ get_or st'.nodes i 0
  word i = ⊎_elim (λ l. used (i / 4) (i % 4) (omega arith) (omega arith) (omega arith)) (λ g. s.records.no_node i g ∙ sym (s'.records.no_node i g)) (laws.lt_or_le i (u * 4))
    where
      move : (n k : ℕ) → i ≡ n * 4 + k → get_or st.nodes (n * 4 + k) 0 ≡ get_or st'.nodes (n * 4 + k) 0 → get_or st.nodes i 0 ≡ get_or st'.nodes i 0
      move n k e q = laws.get_d_at_equal st.nodes i (n * 4 + k) e ∙ (q ∙ sym (laws.get_d_at_equal st'.nodes i (n * 4 + k) e))

      used : (n k : ℕ) → i ≡ n * 4 + k → k < 4 → n < u → get_or st.nodes i 0 ≡ get_or st'.nodes i 0
      used n zero e h l = let a : n * 4 + 0 ≡ n * 4 = omega arith in move n 0 e (laws.get_d_at_equal st.nodes (n * 4 + 0) (n * 4) a ∙ (var n l ∙ sym (laws.get_d_at_equal st'.nodes (n * 4 + 0) (n * 4) a)))
      used n (suc zero) e h l = move n 1 e (counts n l)
      used n (suc (suc zero)) e h l = move n 2 e ((s.records.rules n l).packed ∙ (starts n (omega arith) ∙ sym (s'.records.rules n l).packed))
      used n (suc (suc (suc zero))) e h l = move n 3 e ((s.records.rules n l).spare ∙ sym (s'.records.rules n l).spare)
      used n (suc (suc (suc (suc k)))) e h l = absurd (omega arith)

  child : (i : ℕ) → kid_at st.children i ≡ kid_at st'.children i
  child i = ⊎_elim (λ l. used (locate st.nodes u i l)) (λ g. s.records.no_child i g ∙ sym (s'.records.no_child i (omega (arith, starts u (omega arith))))) (laws.lt_or_le i (start st.nodes u))
    where
      used : Located st.nodes u i → kid_at st.children i ≡ kid_at st'.children i
      used (found n j l h e) =
          let a = starts n (omega arith) in
          laws.get_d_at_equal st.children i (start st.nodes n + j) e ∙ (sym (kid_node st n (s.records.rules n l) j h) ∙ (ap (λ (x : (Pieces ℕ)). kid_of x j) (edges n l)
          ∙ (kid_node st' n (s'.records.rules n l) j (omega (arith, counts n l)) ∙ laws.get_d_at_equal st'.children (start st'.nodes n + j) i (omega arith))))

  cut_cell : (i : ℕ) → cut_at st.cuts i ≡ cut_at st'.cuts i
  cut_cell i = ⊎_elim (λ l. used (locate st.nodes u i l)) (λ g. s.records.no_cut i g ∙ sym (s'.records.no_cut i (omega (arith, starts u (omega arith))))) (laws.lt_or_le i (start st.nodes u))
    where
      used : Located st.nodes u i → cut_at st.cuts i ≡ cut_at st'.cuts i
      used (found n j l h e) = let a = starts n (omega arith) in let b : i ≡ start st'.nodes n + j = omega arith in ap (cut_at st.cuts) e ∙ (both (laws.lt_or_le (var_at st.nodes n) 32) (laws.lt_or_le (j + 1) (count_at st.nodes n)) ∙ sym (ap (cut_at st'.cuts) b))
        where
          r : Rules st n
          r = s.records.rules n l

          r' : Rules st' n
          r' = s'.records.rules n l

          k : count_at st.nodes n ≡ count_at st'.nodes n
          k = counts n l

          v : var_at st.nodes n ≡ var_at st'.nodes n
          v = var n l

          both : (var_at st.nodes n < 32) ⊎ (32 ≤ var_at st.nodes n) → (j + 1 < count_at st.nodes n) ⊎ (count_at st.nodes n ≤ j + 1) → cut_at st.cuts (start st.nodes n + j) ≡ cut_at st'.cuts (start st'.nodes n + j)
          both (inl a) (inl b) = cut_position_one (cut_at st.cuts (start st.nodes n + j)) (cut_at st'.cuts (start st'.nodes n + j)) (cut_position_some st n r j a b)
              (sym (cut_position_node st n r j a b) ∙ (ap (λ (x : (Pieces ℕ)). cut_of x j) (edges n l) ∙ cut_position_node st' n r' j (omega (arith, v)) (omega (arith, k))))
          both (inl a) (inr b) = no_cut_last st n r j a h b ∙ sym (no_cut_last st' n r' j (omega (arith, v)) (omega (arith, k)) (omega (arith, k)))
          both (inr a) b = no_cut_bool st n r j a h ∙ sym (no_cut_bool st' n r' j (omega (arith, v)) (omega (arith, k)))

  module _ (long : length st.nodes ≡ length st'.nodes) (wide : length st.children ≡ length st'.children) (deep : length st.cuts ≡ length st'.cuts) where
    pub same_nodes : st.nodes ≡ st'.nodes
    same_nodes = ext_get_or 0 st.nodes st'.nodes long (λ i l. word i)

    pub same_kids : st.children ≡ st'.children
    same_kids = ext_get_or 0 st.children st'.children wide (λ i l. child i)

    pub same_cuts : st.cuts ≡ st'.cuts
    same_cuts = ext_get_or (pos 0) st.cuts st'.cuts deep (λ i l. cut_cell i)

-- the index of the same records
pub same_index : (st : Store) (index index' : List ℕ) (u : ℕ) → SoundLent st index u → SoundLent st index' u → length index ≡ length index' → index ≡ index'
same_index st index index' u s s' long = ext_get_or 0 index index' long (λ i l. cell i)
  where
    hash : (i n : ℕ) → i ≡ room st.nodes * 3 + n → get_or index i 0 ≡ get_or index' i 0
    hash i n e = laws.get_d_at_equal index i (room st.nodes * 3 + n) e ∙ (⊎_elim (λ l. s.indexed.hashes n l ∙ sym (s'.indexed.hashes n l)) (λ g. s.indexed.no_hash n g ∙ sym (s'.indexed.no_hash n g)) (laws.lt_or_le n u) ∙ sym (laws.get_d_at_equal index' i (room st.nodes * 3 + n) e))

    cell : (i : ℕ) → get_or index i 0 ≡ get_or index' i 0
    cell i = ⊎_elim (λ l. row_one (by_strict (key_at st)) s.indexed.chains s'.indexed.chains i l) (λ g. hash i (i - room st.nodes * 3) (omega arith)) (laws.lt_or_le i (room st.nodes * 3))

-- words that are the same list by list
pub same_store : {st st' : Store} → st.nodes ≡ st'.nodes → st.children ≡ st'.children → st.cuts ≡ st'.cuts → st ≡ st'
same_store p q r = λ i. record { nodes = p i; children = q i; cuts = r i }

-- every cell is determined by the lengths and by what the table means
pub determined : (st : Store) (index : List ℕ) (st' : Store) (index' : List ℕ) (u u' : ℕ)
    → length st.nodes ≡ length st'.nodes → length st.children ≡ length st'.children → length st.cuts ≡ length st'.cuts → length index ≡ length index'
    → SoundLent st index u → SoundLent st' index' u' → held st u ≡ held st' u' → (st ≡ st') × (index ≡ index')
determined st index st' index' u u' a b c d s s' m = (same, same_index st index index' u s (subst (λ (x : Store). SoundLent x index' u) (sym same) t) d)
  where
    e : u' ≡ u
    e = sym (sym (table_length st u) ∙ (ap length m ∙ table_length st' u'))

    t : SoundLent st' index' u
    t = subst (SoundLent st' index') e s'

    n : held st u ≡ held st' u
    n = m ∙ ap (held st') e

    same : st ≡ st'
    same = same_store (same_nodes st index st' index' u s t n a b c) (same_kids st index st' index' u s t n a b c) (same_cuts st index st' index' u s t n a b c)
