-- Words that stay: where two tables agree on the words of the first u records, those records are the same nodes under the same rules.
-- Assumes nothing.
use mathlib.Core.Path.{◌≡◌, refl, sym, ◌∙◌, ap, subst}
use mathlib.Core.Logic.{inl, inr, ⊎_elim}
use mathlib.Core.List.{◌∷◌}
use Prim.Native.Nat.{ℕ, zero, suc, ◌+◌, ◌-◌, ◌*◌, ◌/◌, ◌≤◌, ◌<◌, ◌^◌}
use native.Mathlib.Omega.{arith}
use lib.ListN.{length, get_or}
use lib.IntN.{ℤ}
use lib.Signed.{◌<ℤ◌}
use Rattle.ids.specs.Id.{sign, ref}
use Rattle.ranges.specs.Line.{Cut}
use Rattle.diagram.specs.Pieces.{last, cut}
use Rattle.table.specs.Layout.{var_at, count_at, first_at, kid_at, cut_at, room, start, cut_position, Store}
use Rattle.chains.proofs.Lexical.{key_same}
use Rattle.table.specs.Indexed.{hash_to, hash_at, bucket_at, key_at}
use Rattle.table.specs.Lent.{Stands, KidsStand, Cuts, Blank, Rules, SameRun, SameRecord}
use Rattle.table.specs.Held.{edges_from, edges_at, node_at, held}
use Rattle.making.specs.Growing.{MoreWords}
use Rattle.table.proofs.Laws as laws
use Rattle.table.proofs.Whole.{bucket_lt}
use Rattle.table.proofs.Bridge.{range_edges, bool_edges}

-- the words of u records and of e edges are the same in both tables
pub record Agree (u e : ℕ) (st : Store) (st' : Store) : Type 0 where
  pub word : (i : ℕ) → i < u * 4 → get_or st'.nodes i 0 ≡ get_or st.nodes i 0
  pub child : (i : ℕ) → i < e → kid_at st'.children i ≡ kid_at st.children i
  pub cut : (i : ℕ) → i < e → cut_at st'.cuts i ≡ cut_at st.cuts i

-- each law below holds in both directions
pub agree_sym : {u e : ℕ} {st : Store} {st' : Store} → Agree u e st st' → Agree u e st' st
agree_sym a = record { word = λ i l. sym (a.word i l); child = λ i l. sym (a.child i l); cut = λ i l. sym (a.cut i l) }

-- two tables that differ by node u, whose edges stand from e on, agree before
pub more_agrees : {u e c : ℕ} {st : Store} {st' : Store} → MoreWords u e c st st' → Agree u e st st'
more_agrees m = record { word = λ i l. m.word i (inl l); child = λ i l. m.child i (inl l); cut = λ i l. m.cut i (inl l) }

-- they have the same room,
pub room_agrees : {u e c : ℕ} {st : Store} {st' : Store} → MoreWords u e c st st' → room st'.nodes ≡ room st.nodes
room_agrees m = ap (λ (n : ℕ). n / 4) m.long

-- and the bucket of node u is one of it
pub bucket_in : {u e c : ℕ} {st : Store} {st' : Store} → MoreWords u e c st st' → 1 ≤ room st.nodes → bucket_at st' u < room st.nodes
bucket_in {u} {st' = st'} m h = subst (λ (r : ℕ). bucket_at st' u < r) (room_agrees m) (bucket_lt st' u (omega (arith, room_agrees m)))

module _ {u e : ℕ} {st : Store} {st' : Store} (a : Agree u e st st') where
  -- the words of one record
  pub var_agrees : (n : ℕ) → n < u → var_at st'.nodes n ≡ var_at st.nodes n
  var_agrees n l = a.word (n * 4) (omega arith)

  pub count_agrees : (n : ℕ) → n < u → count_at st'.nodes n ≡ count_at st.nodes n
  count_agrees n l = a.word (n * 4 + 1) (omega arith)

  pub first_agrees : (n : ℕ) → n < u → first_at st'.nodes n ≡ first_at st.nodes n
  first_agrees n l = a.word (n * 4 + 2) (omega arith)

  -- where the edges of a node start
  pub start_agrees : (n : ℕ) → n ≤ u → start st'.nodes n ≡ start st.nodes n
  unfolding start
  start_agrees zero h = refl
  start_agrees (suc n) h = omega (arith, start_agrees n (omega arith), count_agrees n (omega arith))

  -- what a run of edges spells
  edges_from_agree : (i m : ℕ) → i + m < e → edges_from st'.children st'.cuts i m ≡ edges_from st.children st.cuts i m
  unfolding edges_from
  edges_from_agree i zero h = ap last (a.child i (omega arith))
  edges_from_agree i (suc m) h =
      let p = a.child i (omega arith) in
      let q = a.cut i (omega arith) in
      let r = edges_from_agree (suc i) m (omega arith) in
      λ k. cut (p k) (cut_position (q k)) (r k)

  edges_at_agree : (v f c : ℕ) → 2 ≤ c → f + c ≤ e → edges_at st'.children st'.cuts v f c ≡ edges_at st.children st.cuts v f c
  edges_at_agree v f c two h = ⊎_elim ranges booleans (laws.lt_or_le v 32)
    where
      ranges : v < 32 → edges_at st'.children st'.cuts v f c ≡ edges_at st.children st.cuts v f c
      ranges l = range_edges st'.children st'.cuts v f c l ∙ (edges_from_agree f (c - 1) (omega arith) ∙ sym (range_edges st.children st.cuts v f c l))

      booleans : 32 ≤ v → edges_at st'.children st'.cuts v f c ≡ edges_at st.children st.cuts v f c
      booleans l =
          let p = a.child f (omega arith) in
          let q = a.child (f + 1) (omega arith) in
          bool_edges st'.children st'.cuts v f c l ∙ ((λ k. cut (p k) 1 (last (q k))) ∙ sym (bool_edges st.children st.cuts v f c l))

  -- what a run of edges hashes to
  hash_agrees : (v f j : ℕ) → f + j ≤ e → hash_to st'.children st'.cuts v f j ≡ hash_to st.children st.cuts v f j
  unfolding hash_to
  hash_agrees v f zero h = refl
  hash_agrees v f (suc j) h = laws.mix_at_equal (hash_agrees v f j (omega arith)) (a.child (f + j) (omega arith)) (ap cut_position (a.cut (f + j) (omega arith)))

  kids_agree : (n v f c : ℕ) → n < u → f + c ≤ e → KidsStand st.nodes st.children n v f c → KidsStand st'.nodes st'.children n v f c
  kids_agree n v f c l h k = record {
    stand = λ j b. subst (Stands st'.nodes n v) (sym (a.child (f + j) (omega arith))) (stands (kid_at st.children (f + j)) (k.stand j b));
    differ = λ j b q. k.differ j b (sym (a.child (f + (j + 1)) (omega arith)) ∙ (q ∙ a.child (f + j) (omega arith)));
  }
    where
      stands : (x : ℕ) → Stands st.nodes n v x → Stands st'.nodes n v x
      stands x (inl s) = inl s
      stands x (inr s) = inr (s.0, subst (λ (w : ℕ). v < w) (sym (var_agrees (ref x - 1) (omega (arith, s.0)))) s.1)

  cuts_agree : (f c : ℕ) → 2 ≤ c → f + c ≤ e → Cuts st.cuts f c → Cuts st'.cuts f c
  cuts_agree f c two h s = record {
    within = λ j b. subst Cut (sym (a.cut (f + j) (omega arith))) (s.within j b);
    strictly = λ j b. subst (λ (z : ℤ). z <ℤ cut_at st'.cuts (f + (j + 1))) (sym (a.cut (f + j) (omega arith))) (subst (λ (z : ℤ). cut_at st.cuts (f + j) <ℤ z) (sym (a.cut (f + (j + 1)) (omega arith))) (s.strictly j b));
    last = a.cut (f + (c - 1)) (omega arith) ∙ s.last;
  }

  cuts_at : {f c f' c' : ℕ} → f ≡ f' → c ≡ c' → Cuts st'.cuts f c → Cuts st'.cuts f' c'
  cuts_at {c = c} {f' = f'} p q s = subst (Cuts st'.cuts f') q (subst (λ (i : ℕ). Cuts st'.cuts i c) p s)

  blank_agrees : (f : ℕ) → f + 2 ≤ e → Blank st.cuts f → Blank st'.cuts f
  blank_agrees f h b = record { high = a.cut f (omega arith) ∙ b.high; low = a.cut (f + 1) (omega arith) ∙ b.low }

  module _ (rules : (n : ℕ) → n < u → Rules st n) (within : start st.nodes u ≤ e) where
    -- the edges of a record stand where the tables agree
    inside_agreed : (n : ℕ) → n < u → first_at st.nodes n + count_at st.nodes n ≤ e
    inside_agreed n l = omega (arith, laws.edges_before l (rules n l), within)

    -- a record under the rules stays under them
    pub rules_agree : (n : ℕ) → n < u → length st'.children ≡ length st.children → Rules st' n
    rules_agree n l wide = record {
      known = omega (arith, v, r.known);
      many = omega (arith, c, r.many);
      most = omega (arith, c, r.most);
      two = λ b. c ∙ r.two (omega (arith, v, b));
      spare = a.word (n * 4 + 3) (omega arith) ∙ r.spare;
      packed = f ∙ (r.packed ∙ sym (start_agrees n (omega arith)));
      inside = omega (arith, f, c, wide, r.inside);
      plain = ap (λ (i : ℕ). sign (kid_at st'.children i)) f ∙ (ap sign (a.child (first_at st.nodes n) (omega (arith, h, r.many))) ∙ r.plain);
      edges = laws.kids_stand_at_equal (sym v) (sym f) (sym c) (kids_agree n (var_at st.nodes n) (first_at st.nodes n) (count_at st.nodes n) l h r.edges);
      ranges = λ b. cuts_at (sym f) (sym c) (cuts_agree (first_at st.nodes n) (count_at st.nodes n) r.many h (r.ranges (omega (arith, v, b))));
      booleans = λ b. laws.blank_at_equal (sym f) (blank_agrees (first_at st.nodes n) (omega (arith, h, r.many)) (r.booleans (omega (arith, v, b))));
    }
      where
        r : Rules st n
        r = rules n l

        v : var_at st'.nodes n ≡ var_at st.nodes n
        v = var_agrees n l

        c : count_at st'.nodes n ≡ count_at st.nodes n
        c = count_agrees n l

        f : first_at st'.nodes n ≡ first_at st.nodes n
        f = first_agrees n l

        h : first_at st.nodes n + count_at st.nodes n ≤ e
        h = inside_agreed n l

    -- keeps its hash,
    pub hash_at_agrees : (n : ℕ) → n < u → hash_at st' n ≡ hash_at st n
    unfolding hash_at
    hash_at_agrees n l = (λ i. hash_to st'.children st'.cuts (v i) (f i) (c i)) ∙ hash_agrees (var_at st.nodes n) (first_at st.nodes n) (count_at st.nodes n) (inside_agreed n l)
      where
        v : var_at st'.nodes n ≡ var_at st.nodes n
        v = var_agrees n l

        c : count_at st'.nodes n ≡ count_at st.nodes n
        c = count_agrees n l

        f : first_at st'.nodes n ≡ first_at st.nodes n
        f = first_agrees n l

    -- stays in its bucket,
    pub bucket_agrees : (n : ℕ) → n < u → length st'.nodes ≡ length st.nodes → bucket_at st' n ≡ bucket_at st n
    unfolding bucket_at
    bucket_agrees n l long = let hash = hash_at_agrees n l in λ i. hash i * (long i / 4) / 2 ^ 32

    -- is ordered by the same,
    pub key_agrees : (n : ℕ) → n < u → key_at st' n ≡ key_at st n
    unfolding key_at
    key_agrees n l = key_same _ _ _ _ _ _ _ _ _ _ (record { hash = hash_at_agrees n l; variable = var_agrees n l; count = count_agrees n l; edges = λ j b. (child j b, end j b) })
      where
        child : (j : ℕ) → j < count_at st'.nodes n → kid_at st'.children (first_at st'.nodes n + j) ≡ kid_at st.children (first_at st.nodes n + j)
        child j b = ap (λ (i : ℕ). kid_at st'.children (i + j)) (first_agrees n l) ∙ a.child (first_at st.nodes n + j) (omega (arith, inside_agreed n l, count_agrees n l))

        end : (j : ℕ) → j < count_at st'.nodes n → cut_position (cut_at st'.cuts (first_at st'.nodes n + j)) ≡ cut_position (cut_at st.cuts (first_at st.nodes n + j))
        end j b = ap (λ (i : ℕ). cut_position (cut_at st'.cuts (i + j))) (first_agrees n l) ∙ ap cut_position (a.cut (first_at st.nodes n + j) (omega (arith, inside_agreed n l, count_agrees n l)))

    -- and is the same node
    pub node_agrees : (n : ℕ) → n < u → node_at st' n ≡ node_at st n
    node_agrees n l = λ i. record { var = v i; edges = edges i }
      where
        v : var_at st'.nodes n ≡ var_at st.nodes n
        v = var_agrees n l

        c : count_at st'.nodes n ≡ count_at st.nodes n
        c = count_agrees n l

        f : first_at st'.nodes n ≡ first_at st.nodes n
        f = first_agrees n l

        edges : edges_at st'.children st'.cuts (var_at st'.nodes n) (first_at st'.nodes n) (count_at st'.nodes n) ≡ edges_at st.children st.cuts (var_at st.nodes n) (first_at st.nodes n) (count_at st.nodes n)
        edges = (λ i. edges_at st'.children st'.cuts (v i) (f i) (c i)) ∙ edges_at_agree (var_at st.nodes n) (first_at st.nodes n) (count_at st.nodes n) (rules n l).many (inside_agreed n l)

    -- so the first n records hold the same table
    pub held_agrees : (n : ℕ) → n ≤ u → held st' n ≡ held st n
    unfolding held
    held_agrees zero h = refl
    held_agrees (suc n) h = let p = node_agrees n (omega arith) in let q = held_agrees n (omega arith) in λ i. p i ∷ q i

    -- and two of them are the same record only if they were
    pub same_record_agrees : (m n : ℕ) → m < u → n < u → SameRecord st' m n → SameRecord st m n
    same_record_agrees m n k l s = record { variable = sym (var_agrees m k) ∙ (s.variable ∙ var_agrees n l); count = count; edges = record { child = λ j b. child j b; cut = λ j b. cut_same j b } }
      where
        count : count_at st.nodes m ≡ count_at st.nodes n
        count = sym (count_agrees m k) ∙ (s.count ∙ count_agrees n l)

        run : SameRun st'.children st'.cuts (first_at st.nodes m) (first_at st.nodes n) (count_at st.nodes n)
        run = laws.same_run_at_equal (first_agrees m k) (first_agrees n l) (count_agrees n l) s.edges

        child : (j : ℕ) → j < count_at st.nodes n → kid_at st.children (first_at st.nodes m + j) ≡ kid_at st.children (first_at st.nodes n + j)
        child j b = sym (a.child (first_at st.nodes m + j) (omega (arith, inside_agreed m k, count))) ∙ (run.child j b ∙ a.child (first_at st.nodes n + j) (omega (arith, inside_agreed n l)))

        cut_same : (j : ℕ) → j < count_at st.nodes n → cut_at st.cuts (first_at st.nodes m + j) ≡ cut_at st.cuts (first_at st.nodes n + j)
        cut_same j b = sym (a.cut (first_at st.nodes m + j) (omega (arith, inside_agreed m k, count))) ∙ (run.cut j b ∙ a.cut (first_at st.nodes n + j) (omega (arith, inside_agreed n l)))
