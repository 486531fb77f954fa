-- The index of a lent table: a chained hash in closed form, its chains sorted and linked both ways (crate `chains`). Document 01: "the
-- index is what the node records, taken in order, determine". Assumes nothing.
use Rattle.std.specs.Prelude.{◌≡◌, Bool, List, ℕ, zero, suc, ◌+◌, ◌*◌, ◌/◌, ◌%◌, ◌≤◌, ◌<◌, ◌^◌, get_or, ℤ}
use Rattle.chains.specs.Lexical.{less, key}
use Rattle.chains.specs.Row as row
use Rattle.table.specs.Layout.{var_at, count_at, first_at, kid_at, cut_at, room, cut_position, Store}

-- One edge mixed into a hash of 32 bits.
abbrev pub mix : ℕ → ℕ → ℕ → ℕ
mix h c k = (h * 1640531527 + c * 805459861 + k) % 2 ^ 32

-- Variable v, mixed with the first j edges from edge e on.
unfoldable pub hash_to : List ℕ → List ℤ → ℕ → ℕ → ℕ → ℕ
hash_to children cuts v e zero = v % 2 ^ 32
hash_to children cuts v e (suc j) = mix (hash_to children cuts v e j) (kid_at children (e + j)) (cut_position (cut_at cuts (e + j)))

-- The hash of node n, of its variable, children and cuts;
unfoldable pub hash_at : Store → ℕ → ℕ
hash_at st n = hash_to st.children st.cuts (var_at st.nodes n) (first_at st.nodes n) (count_at st.nodes n)

-- its bucket: the hash scaled to the room;
unfoldable pub bucket_at : Store → ℕ → ℕ
bucket_at st n = hash_at st n * room st.nodes / 2 ^ 32

-- and what it is ordered by: hash, variable, number of edges, then child and cut of each edge.
unfoldable pub key_at : Store → ℕ → List ℕ
key_at st n = key (hash_at st n) (var_at st.nodes n) (count_at st.nodes n) (λ j. kid_at st.children (first_at st.nodes n + j)) (λ j. cut_position (cut_at st.cuts (first_at st.nodes n + j)))

-- Node m comes before node n.
abbrev pub precedes : Store → ℕ → ℕ → Bool
precedes st m n = less (key_at st m) (key_at st n)

-- The index of u nodes: for each bucket its first node, for each node the next of its bucket and the one before it, each plus one, and its
-- hash; and nothing else.
pub record Indexed (st : Store) (index : List ℕ) (u : ℕ) : Type 0 where
  pub chains : row.Indexed (precedes st) (bucket_at st) u (room st.nodes) (row.words index)
  pub hashes : (n : ℕ) → n < u → get_or index (room st.nodes * 3 + n) 0 ≡ hash_at st n
  pub no_hash : (n : ℕ) → u ≤ n → get_or index (room st.nodes * 3 + n) 0 ≡ 0
