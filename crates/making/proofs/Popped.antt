-- Taking the last node back. Assumes nothing.
use mathlib.Core.Path.{◌≡◌, refl, sym, ◌∙◌, ap, subst}
use mathlib.Core.List.{List}
use mathlib.Core.Logic.{◌⊎◌, inl, inr}
use Prim.Native.Nat.{ℕ, zero, suc, ◌+◌, ◌-◌, ◌*◌, ◌/◌, ◌≤◌, ◌<◌}
use native.Mathlib.Omega.{arith}
use lib.ListN.{length, get_or}
use Rattle.chains.specs.Row as row
use Rattle.table.specs.Layout.{most_nodes, count_at, first_at, kid_at, cut_at, room, start, Store}
use Rattle.table.specs.Indexed.{bucket_at}
use Rattle.table.specs.Lent.{Rules, SoundLent}
use Rattle.table.proofs.Laws as laws
use Rattle.making.specs.Growing.{MoreWords, NodeOut}
use Rattle.making.proofs.Shrunk.{prev_le, next_le, sound_shrunk, start_shrunk}
use Rattle.table.specs.declared.lent.Used.{Used}
use Rattle.making.specs.Storing.{EdgesBlank, RecordPut}
use Rattle.making.specs.Outcome.{Lent, TakenBack}
use Rattle.making.proofs.Kept.{allowed_same}

module _ {h : Used} {st : Store} {index : List ℕ} (pre : Lent h st index × (1 ≤ h.nodes)) {u : ℕ} (last : u ≡ h.nodes - 1) {nodes read : List ℕ} (nodes_same : nodes ≡ st.nodes) (index_same : read ≡ index)
    {e n behind before hash b : ℕ} (first : e ≡ first_at nodes u) (count : n ≡ count_at nodes u) (behind_is : behind ≡ get_or read (room nodes + u) 0) (before_is : before ≡ get_or read (room nodes * 2 + u) 0) (hash_is : hash ≡ get_or read (room nodes * 3 + u) 0) (bucket : (b ≡ hash * room nodes / 4294967296) × (b < room nodes)) where
  abbrev l : Lent h st index
  l = pre.0

  last_is : h.nodes ≡ suc u
  last_is = omega (arith, pre.1)

  sound : SoundLent st index (suc u)
  sound = subst (SoundLent st index) last_is l.sound

  rules : Rules st u
  rules = sound.records.rules u (omega arith)

  -- What its words say, of the table as it is lent,
  first_lem : e ≡ first_at st.nodes u
  first_lem = rw nodes_same at first

  count_lem : n ≡ count_at st.nodes u
  count_lem = rw nodes_same at count

  behind_lem : behind ≡ row.next_of (room st.nodes) (row.words index) u
  behind_lem = rw (nodes_same, index_same) at behind_is

  before_lem : before ≡ row.prev_of (room st.nodes) (row.words index) u
  before_lem = rw (nodes_same, index_same) at before_is

  -- and its bucket, as the code computes it from its hash word.
  bucket_lem : b ≡ bucket_at st u
  unfolding bucket_at
  bucket_lem = (rw nodes_same at bucket.0) ∙ ap (λ (x : ℕ). x * room st.nodes / 4294967296) ((rw (nodes_same, index_same) at hash_is) ∙ l.sound.indexed.hashes u (omega arith))

  -- What taking it out of its chain asks,
  pub splice_asks : (length index ≡ room nodes * 4) × (room nodes ≤ most_nodes) × (b < room nodes) × (u < room nodes) × (before ≤ u) × (behind ≤ u)
  splice_asks = rw nodes_same (l.allowed.indexed, l.allowed.nodes_at_most, rw nodes_same at bucket.1, omega (arith, l.sound.records.fits), omega (arith, before_lem, prev_le sound), omega (arith, behind_lem, next_le sound))

  module _ {st' : Store} {index' : List ℕ} (i : NodeOut (room nodes) u b before behind index index') (p : EdgesBlank st.children st.cuts e n st'.children st'.cuts) (q : RecordPut st.nodes u 0 0 0 st'.nodes) where
    words : MoreWords u e (count_at st.nodes u) st' st
    words = record {
      long = sym q.long;
      wide = sym p.wide;
      deep = sym p.deep;
      word = λ i g. sym (q.other i g);
      no_word = λ i g k. blank i (i - u * 4) (omega arith) (omega arith);
      child = λ i g. sym (p.child_other i (span i g));
      no_child = λ i g k. let a : i ≡ e + (i - e) = omega arith in ap (kid_at st'.children) a ∙ p.child_is (i - e) (omega (arith, count_lem));
      cut = λ i g. sym (p.cut_other i (span i g));
      no_cut = λ i g k. let a : i ≡ e + (i - e) = omega arith in ap (cut_at st'.cuts) a ∙ p.cut_is (i - e) (omega (arith, count_lem));
    }
      where
        span : (i : ℕ) → (i < e) ⊎ (e + count_at st.nodes u ≤ i) → (i < e) ⊎ (e + n ≤ i)
        span i (inl g) = inl g
        span i (inr g) = inr (omega (arith, count_lem))

        blank : (i k : ℕ) → i ≡ u * 4 + k → k < 4 → get_or st'.nodes i 0 ≡ 0
        blank i zero x g = let a : i ≡ u * 4 = omega arith in laws.get_d_at_equal st'.nodes i (u * 4) a ∙ q.variable
        blank i (suc zero) x g = laws.get_d_at_equal st'.nodes i (u * 4 + 1) x ∙ q.counts
        blank i (suc (suc zero)) x g = laws.get_d_at_equal st'.nodes i (u * 4 + 2) x ∙ q.firsts
        blank i (suc (suc (suc zero))) x g = laws.get_d_at_equal st'.nodes i (u * 4 + 3) x ∙ (q.spare ∙ rules.spare)
        blank i (suc (suc (suc (suc k)))) x g = absurd (omega arith)

    next : suc u ≡ u + 1
    next = omega arith

    gone : NodeOut (room st.nodes) u (bucket_at st u) (row.prev_of (room st.nodes) (row.words index) u) (row.next_of (room st.nodes) (row.words index) u) index index'
    gone = rw (sym bucket_lem, sym before_lem, sym behind_lem) (rw nodes_same at i)

    -- and what is left.
    pub popped : TakenBack u h st (record { nodes = u; edges = e }) st' index'
    popped = record {
      lent = record { allowed = allowed_same l.allowed q.long p.wide p.deep i.broad; sound = sound_shrunk sound first_lem words gone; edges = sym (start_shrunk sound first_lem words) };
      used_is = refl;
      stays = record {
        long = sym q.long;
        wide = sym p.wide;
        nodes_more = omega arith;
        edges_more = omega (arith, l.edges, ap (start st.nodes) (last_is ∙ next), laws.start_next st.nodes u, first_lem, rules.packed);
        word = λ i g. sym (q.other i (inl g));
        child = λ i g. sym (p.child_other i (inl g));
        cut = λ i g. sym (p.cut_other i (inl g));
      };
    }
