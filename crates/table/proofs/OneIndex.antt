-- The records of a lent table determine its index: exactly one stands beside sound records. Assumes nothing.
use mathlib.Core.Path.{◌≡◌, refl, sym, ◌∙◌}
use mathlib.Core.List.{List, ◌++◌}
use Prim.Native.Nat.{ℕ, ◌+◌, ◌-◌, ◌*◌, ◌<◌}
use native.Mathlib.Omega.{arith}
use lib.ListN.{length, replicate, length-append, length-replicate}
use Rattle.chains.specs.Row.{words}
use Rattle.chains.specs.Row as row
use Rattle.chains.proofs.Lexical.{SameNode, by_strict, key_tells}
use Rattle.chains.proofs.Exists.{Tells, by_stand, listed, listed_length, listed_then, listed_past, row_exists}
use Rattle.table.specs.Layout.{var_at, count_at, first_at, kid_at, cut_at, room, cut_position, Store}
use Rattle.table.specs.Indexed.{hash_at, bucket_at, key_at, precedes, Indexed}
use Rattle.table.specs.Lent.{Rules, SameRecord, SoundRecords}
use Rattle.table.proofs.Laws.{Order, less, equal, more, lt_eq_or_gt}
use Rattle.table.proofs.CutPositions.{has_position}
use Rattle.table.proofs.Ordered.{all_cuts_at}
use Rattle.table.proofs.Bridge.{cut_position_one}
use Rattle.table.proofs.Determined.{same_index}
use Rattle.table.proofs.Promises.{no_word}

module _ (st : Store) where
  -- Nodes of one key are of one record: each word of the edges of a record that keeps the rules has a position, which tells it.
  same_key_same_record : (m n : ℕ) → Rules st m → key_at st m ≡ key_at st n → SameRecord st m n
  unfolding key_at
  same_key_same_record m n r e = record {
    variable = k.variable;
    count = k.count;
    edges = record {
      child = λ j l. (k.edges j (omega (arith, k.count))).0;
      cut = λ j l. let i : j < count_at st.nodes m = omega (arith, k.count) in
          cut_position_one (cut_at st.cuts (first_at st.nodes m + j)) (cut_at st.cuts (first_at st.nodes n + j)) (has_position (cut_at st.cuts (first_at st.nodes m + j)) (all_cuts_at st m r refl (omega arith) j i)) (k.edges j i).1;
    };
  }
    where
      k : SameNode (hash_at st m) (hash_at st n) (var_at st.nodes m) (var_at st.nodes n) (count_at st.nodes m) (count_at st.nodes n)
          (λ j. kid_at st.children (first_at st.nodes m + j)) (λ j. cut_position (cut_at st.cuts (first_at st.nodes m + j)))
          (λ j. kid_at st.children (first_at st.nodes n + j)) (λ j. cut_position (cut_at st.cuts (first_at st.nodes n + j)))
      k = key_tells _ _ _ _ _ _ _ _ _ _ e

  module _ (u : ℕ) (s : SoundRecords st u) where
    -- No two records of a sound table are the same, so the order tells them apart.
    precedes_tells : Tells (precedes st) u
    precedes_tells m n k l = by_stand (key_at st) m n (λ e. go e (lt_eq_or_gt m n))
      where
        go : key_at st m ≡ key_at st n → Order m n → m ≡ n
        go e (less h) = absurd (s.single m n h l (same_key_same_record m n (s.rules m k) e))
        go e (equal h) = h
        go e (more h) = absurd (s.single n m h k (same_key_same_record n m (s.rules n l) (sym e)))

    -- The words behind the chains: the hashes, and nothing for the records that are not used.
    abbrev hash_words : List ℕ
    hash_words = listed (hash_at st) u ++ replicate (room st.nodes - u) 0

    hash_words_length : length hash_words ≡ room st.nodes
    hash_words_length = omega (arith, length-append (listed (hash_at st) u) (replicate (room st.nodes - u) 0), listed_length (hash_at st) u, length-replicate {A = ℕ} (room st.nodes - u) 0, s.fits)

    index_exists : (index : List ℕ) × (length index ≡ room st.nodes * 4) × Indexed st index u
    index_exists = (
      made.0,
      omega (arith, made.1, hash_words_length),
      record {
        chains = made.2;
        hashes = λ n l. made.3 n ∙ listed_then (hash_at st) u (replicate (room st.nodes - u) 0) n l;
        no_hash = λ n g. made.3 n ∙ (listed_past (hash_at st) u (replicate (room st.nodes - u) 0) (n - u) n (omega arith) ∙ no_word (room st.nodes - u) (n - u));
      },
    )
      where
        made : (index : List ℕ) × (length index ≡ room st.nodes * 3 + length hash_words) × row.Indexed (precedes st) (bucket_at st) u (room st.nodes) (words index) × ((n : ℕ) → words index (room st.nodes * 3 + n) ≡ words hash_words n)
        made = row_exists (bucket_at st) (room st.nodes) (by_strict (key_at st)) precedes_tells s.fits hash_words

-- There is an index of the length that is asked for, and any other of that length is the same, word by word.
pub index_determined : (st : Store) (u : ℕ) → SoundRecords st u
    → (index : List ℕ) × (length index ≡ room st.nodes * 4) × Indexed st index u
    × ((other : List ℕ) → length other ≡ room st.nodes * 4 → Indexed st other u → other ≡ index)
index_determined st u s = (i.0, i.1, i.2, λ other long t. same_index st other i.0 u (record { records = s; indexed = t }) (record { records = s; indexed = i.2 }) (long ∙ sym i.1))
  where
    i : (index : List ℕ) × (length index ≡ room st.nodes * 4) × Indexed st index u
    i = index_exists st u s
