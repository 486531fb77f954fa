-- The search for a node in the chain of its bucket. Assumes nothing.
use Rattle.std.specs.Prelude.{◌≡◌, true, List, [], ◌∷◌, ◌++◌, ℕ, suc, ◌+◌, ◌-◌, ◌*◌, ◌/◌, ◌<◌, ◌^◌, ℤ}
use Rattle.ids.specs.Id.{under}
use Rattle.algebra.specs.Making.{find}
use Rattle.chains.specs.Lexical.{less, run}
use Rattle.chains.specs.Place as place
use Rattle.chains.specs.Row.{words, next_of}
use Rattle.table.specs.Layout.{var_at, count_at, first_at, kid_at, cut_at, cut_position, room, Store}
use Rattle.table.specs.Indexed.{key_at, bucket_at, precedes}
use Rattle.table.specs.Lent.{SoundLent}
use Rattle.table.specs.Held.{held}
use Rattle.making.specs.declared.chain.Front.{Front}
use Rattle.making.specs.declared.chain.Spot.{Spot}
use Rattle.making.specs.declared.edges.Edges as built
use Rattle.making.specs.Building.{child_in, key_in, node_of, hash_in, content_of}

-- The answer of a comparison: 0 where xs stands before ys, 1 where they are the same, more where it stands behind.
pub record Ordered (xs ys : List ℕ) (r : ℕ) : Type 0 where
  pub before : r ≡ 0 → less xs ys ≡ true
  pub same : r ≡ 1 → xs ≡ ys
  pub behind : 1 < r → less ys xs ≡ true

-- Child and cut of a stored edge.
abbrev pub edge_at : List ℕ → List ℤ → ℕ → List ℕ
edge_at children cuts i = kid_at children i ∷ (cut_position (cut_at cuts i) ∷ [])

-- What comes behind the hash in what node n is ordered by: first its variable, the number of its edges, and its first two edges,
abbrev pub front_at : Store → ℕ → List ℕ
front_at st n = var_at st.nodes n ∷ (count_at st.nodes n ∷ (edge_at st.children st.cuts (first_at st.nodes n) ++ edge_at st.children st.cuts (first_at st.nodes n + 1)))

-- then its other edges, which are none in a boolean node.
abbrev pub rest_at : Store → ℕ → ℕ → List ℕ
rest_at st n count = run (λ j. kid_at st.children (first_at st.nodes n + j)) (λ j. cut_position (cut_at st.cuts (first_at st.nodes n + j))) 2 (count - 2)

-- Those of a node under construction.
abbrev pub rest_in : ℕ → ℕ → built.Edges → List ℕ
rest_in v s es = run (λ j. under s (child_in es j)) (key_in v es) 2 (es.len - 2)

-- A front as the code holds it, and a content that begins with it.
abbrev pub front_of : Front → List ℕ
front_of f = f.variable ∷ (f.count ∷ (f.child0 ∷ (f.cut0 ∷ (f.child1 ∷ (f.cut1 ∷ [])))))

abbrev pub fronted : ℕ → Front → List ℕ → List ℕ
fronted h f rest = h ∷ (front_of f ++ rest)

-- The bucket of a hash.
abbrev pub bucket_of : Store → ℕ → ℕ
bucket_of st h = h * room st.nodes / 2 ^ 32

-- The nodes that stand before a content, and those behind it.
abbrev pub Low : Store → List ℕ → ℕ → Type 0
Low st new k = less (key_at st k) new ≡ true

abbrev pub High : Store → List ℕ → ℕ → Type 0
High st new k = less new (key_at st k) ≡ true

-- The place of a content in bucket b, of u nodes: between the nodes of the words p and q.
abbrev pub Place : Store → ℕ → ℕ → List ℕ → ℕ → ℕ → Type 0
Place st u b new p q = place.Place (precedes st) (bucket_at st) u b (Low st new) (High st new) p q

-- A walk down bucket b past nodes that stand before a content: it has come from the word p, and stands at the word x.
abbrev pub Walks : Store → List ℕ → ℕ → ℕ → List ℕ → ℕ → ℕ → Type 0
Walks st index u b new p x = place.Walking (bucket_at st) u b (Low st new) (words index) (next_of (room st.nodes) (words index)) p x

-- It may go on from the node of the word p, or from the bucket's word where p is 0.
abbrev pub Passed : Store → ℕ → ℕ → List ℕ → ℕ → Type 0
Passed st u b new p = (m : ℕ) → p ≡ suc m → (m < u) × (bucket_at st m ≡ b) × Low st new m

-- How far a walk at the word x is from its end.
abbrev pub far : Store → ℕ → ℕ
far st x = place.left (precedes st) (room st.nodes) x

-- Where a search for a content may go on: in a sound table.
pub record Seekable (st : Store) (index : List ℕ) (h : ℕ) (f : Front) (from : ℕ) : Type 0 where
  pub used : ℕ
  pub sound : SoundLent st index used
  pub rest : List ℕ
  pub passed : Passed st used (bucket_of st h) (fronted h f rest) from

-- What it comes to: a node with this front, where only its other edges tell how it stands to the content; or the place of the content.
pub record Sought (st : Store) (index : List ℕ) (u h : ℕ) (f : Front) (rest : List ℕ) (s : Spot) : Type 0 where
  pub walks : 0 < s.at → Walks st index u (bucket_of st h) (fronted h f rest) s.before s.at
  pub front : (m : ℕ) → s.at ≡ suc m → key_at st m ≡ fronted h f (rest_at st m (count_at st.nodes m))
  pub placed : s.at ≡ 0 → Place st u (bucket_of st h) (fronted h f rest) s.before s.behind

pub record Seeks (st : Store) (index : List ℕ) (h : ℕ) (f : Front) (from : ℕ) (s : Spot) : Type 0 where
  pub sought : (u : ℕ) → SoundLent st index u → (rest : List ℕ) → Passed st u (bucket_of st h) (fronted h f rest) from → Sought st index u h f rest s
  pub nearer : 0 < from → far st s.at < far st from

-- "Find it": one more than the number of the node, or 0 where the table has none; and then its place in its bucket.
pub record Finds (st : Store) (u v s : ℕ) (es : built.Edges) (r : Spot) : Type 0 where
  pub at_is : r.at ≡ find (held st u) (node_of v s es)
  pub placed : r.at ≡ 0 → Place st u (bucket_of st (hash_in v s es es.len)) (content_of v s es) r.before r.behind
