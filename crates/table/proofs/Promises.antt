-- What a reader of the demands looks for, as far as it speaks of lent tables that no node is added to. Assumes nothing.
use mathlib.Core.Path.{◌≡◌, refl, ap}
use mathlib.Core.List.{List, []}
use Prim.Native.Nat.{ℕ, zero, suc, ◌+◌, ◌*◌, ◌≤◌, ◌<◌}
use native.Mathlib.Omega.{arith}
use lib.ListN.{length, get_or, replicate}
use lib.IntN.{pos}
use Rattle.chains.proofs.Unique.{sorted_none}
use Rattle.diagram.specs.Shape.{count}
use Rattle.diagram.specs.Sound.{Sound}
use Rattle.diagram.specs.Room.{width, edge_total, Fits}
use Rattle.diagram.specs.Table.{most_edges}
use Rattle.table.specs.Layout.{room, start, Store, store}
use Rattle.table.specs.Lent.{Rules, SoundLent}
use Rattle.table.specs.Held.{held}
use Rattle.table.specs.Told.{done, Freshens, freshened_1, freshened_0}
use Rattle.table.proofs.Scan.{table_length}
use Rattle.table.proofs.Bridge.{at_held, sound_held}
use Rattle.table.proofs.Determined.{count_node, determined}

-- A sound lent table holds a sound table of the mathematics: every theorem about those is one about the words.
pub holds_a_sound_table : (st : Store) (index : List ℕ) (u : ℕ) → SoundLent st index u → Sound (held st u)
holds_a_sound_table st index u s = sound_held st index u s

-- The counts that the check tells are those of the table that is held,
edges_held : (st : Store) (n : ℕ) → ((m : ℕ) → m < n → Rules st m) → edge_total (held st n) ≡ start st.nodes n
unfolding held start
edges_held st zero r = refl
edges_held st (suc n) r = let a = count_node st n (r n (omega arith)) in let b = edges_held st n (λ m l. r m (omega arith)) in omega (arith, a, b)

pub counts_what_is_held : (st : Store) (index : List ℕ) (u : ℕ) → SoundLent st index u
    → (length (held st u) ≡ u) × (edge_total (held st u) ≡ start st.nodes u)
counts_what_is_held st index u s = (table_length st u, edges_held st u s.records.rules)

-- and the table that is held fits the room it is lent.
pub edges_fit_lem : (st : Store) (n : ℕ) → ((m : ℕ) → m < n → Rules st m) → start st.nodes n ≤ length st.children
unfolding start
edges_fit_lem st zero r = omega arith
edges_fit_lem st (suc n) r = omega (arith, (r n (omega arith)).packed, (r n (omega arith)).inside)

pub fits_its_room : (st : Store) (index : List ℕ) (u : ℕ) → SoundLent st index u → Fits (room st.nodes) (length st.children) (held st u)
fits_its_room st index u s = record {
  nodes_fit = omega (arith, s.records.fits, q);
  edges_fit = omega (arith, edges_held st u s.records.rules, edges_fit_lem st u s.records.rules);
  widths_fit = narrow;
}
  where
    q : length (held st u) ≡ u
    q = table_length st u

    narrow : (r : ℕ) → 0 < r → r ≤ length (held st u) → width (held st u) r ≤ most_edges
    narrow zero h l = absurd (omega arith)
    narrow (suc i) h l = let k : i < u = omega (arith, q) in let a = ap (λ nd. count nd.edges) (at_held st u i k) in
        omega (arith, a, count_node st i (s.records.rules i k), (s.records.rules i k).most)

-- Two sound tables with equal rooms that hold the same nodes are equal in every word.
pub same_table_same_words : (st : Store) (index : List ℕ) (st' : Store) (index' : List ℕ) (u u' : ℕ)
    → length st.nodes ≡ length st'.nodes → length st.children ≡ length st'.children → length st.cuts ≡ length st'.cuts → length index ≡ length index'
    → SoundLent st index u → SoundLent st' index' u' → held st u ≡ held st' u'
    → (st ≡ st') × (index ≡ index')
same_table_same_words = determined

-- What `fresh` leaves is sound and holds no node: the check tells 0, and 0 nodes and 0 edges.
blank : {A : Type 0} (d : A) (n i : ℕ) → get_or (replicate n d) i d ≡ d
blank d zero i = refl
blank d (suc n) zero = refl
blank d (suc n) (suc i) = blank d n i

pub no_word : (n i : ℕ) → ◌≡◌ {A = ℕ} (get_or (replicate n 0) i 0) 0
no_word n i = blank {A = ℕ} 0 n i

zero_words_are_sound : (a b c d : ℕ) → SoundLent (store (replicate a 0) (replicate b 0) (replicate c (pos 0))) (replicate d 0) 0
zero_words_are_sound a b c d = record {
  records = record {
    fits = omega arith;
    rules = λ n l. absurd (omega arith);
    single = λ m n l h. absurd (omega arith);
    no_node = λ i l. no_word a i;
    no_child = λ i l. no_word b i;
    no_cut = λ i l. blank (pos 0) c i;
  };
  indexed = record {
    chains = sorted_none (λ i l. no_word d i) (λ n l. no_word d (room (replicate a 0) + n)) (λ n l. no_word d (room (replicate a 0) * 2 + n));
    hashes = λ n l. absurd (omega arith);
    no_hash = λ n l. no_word d (room (replicate a 0) * 3 + n);
  };
}

pub fresh_is_empty : {st st' : Store} {index index' : List ℕ} {k : ℕ} → Freshens st index k st' index' → k ≡ done
    → SoundLent st' index' 0 × (held st' 0 ≡ [])
unfolding held
fresh_is_empty (freshened_1 f) e = absurd (omega arith)
fresh_is_empty {st} {index = index} (freshened_0 a) e = (zero_words_are_sound (length st.nodes) (length st.children) (length st.cuts) (length index), refl)
