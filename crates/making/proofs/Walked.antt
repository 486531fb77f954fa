-- The walk down a bucket, as the code has it: at a word that is not 0 stands the node of one less. Assumes nothing.
use mathlib.Core.Path.{◌≡◌, refl, sym, ◌∙◌, ap, subst}
use mathlib.Core.Bool.{true}
use mathlib.Core.Logic.{⊎_elim}
use mathlib.Core.List.{List, ◌∷◌, ◌++◌}
use Prim.Native.Nat.{ℕ, zero, suc, ◌+◌, ◌-◌, ◌*◌, ◌≤◌, ◌<◌}
use native.Mathlib.Omega.{arith}
use native.Mathlib.Nat.{eq-or-lt_of_le}
use lib.ListN.{get_or}
use Rattle.chains.specs.Before.{Strict}
use Rattle.chains.specs.Lexical.{less}
use Rattle.chains.specs.Row.{from}
use Rattle.chains.specs.Place.{Splits}
use Rattle.chains.proofs.Lexical.{by_strict, splits, less_smaller, less_equal, less_append}
use Rattle.chains.proofs.Rank.{left_ends}
use Rattle.chains.proofs.Found.{walk_at, walk_on, walk_nears, walk_ends}
use Rattle.table.specs.Layout.{count_at, room, Store}
use Rattle.table.specs.Indexed.{key_at, bucket_at, precedes}
use Rattle.table.specs.Lent.{SoundLent}
use Rattle.table.proofs.Laws as laws
use Rattle.table.proofs.Whole.{bucket_lt}
use Rattle.making.specs.declared.chain.Front.{Front}
use Rattle.making.specs.Seeking.{Ordered, front_at, rest_at, front_of, fronted, bucket_of, Low, High, Place, Walks, Passed, far, Seekable, Sought, Seeks}
use Rattle.making.proofs.Fronts.{key_front}

pub from_some : (r b p : ℕ) → 0 < p → r + (p - 1) ≡ from r b p
from_some r b zero h = absurd (omega arith)
from_some r b (suc m) h = omega arith

pub from_none : (r b p : ℕ) → p ≤ 0 → b ≡ from r b p
from_none r b zero h = refl
from_none r b (suc m) h = absurd (omega arith)

-- what is left of two numbers
pub not_equal : {a b : ℕ} → a ≤ b → (a ≡ b → ⊥) → a < b
not_equal l d = ⊎_elim (λ e. absurd (d e)) (λ g. g) (eq-or-lt_of_le l)

pub far_ends : (st : Store) (x : ℕ) → 0 < x → far st 0 < far st x
far_ends st zero l = absurd (omega arith)
far_ends st (suc a) l = left_ends (by_strict (key_at st)) (room st.nodes) a

-- Where a walk may have come, there are used nodes.
pub passed_within : (st : Store) (u b : ℕ) (new : List ℕ) (p : ℕ) → Passed st u b new p → p ≤ u
passed_within st u b new zero w = omega arith
passed_within st u b new (suc m) w = (w m refl).0

module _ {st : Store} {index : List ℕ} {u : ℕ} (z : SoundLent st index u) (b : ℕ) (b_lt : b < room st.nodes) (new : List ℕ) where
  strict : Strict (precedes st)
  strict = by_strict (key_at st)

  inside : (n : ℕ) → n < u → bucket_at st n < room st.nodes
  inside n l = bucket_lt st n (omega (arith, z.records.fits))

  parts : Splits (precedes st) (Low st new) (High st new)
  parts = splits (key_at st) new

  one_less : (a : ℕ) → suc a - 1 ≡ a
  one_less a = omega arith

  pub walks_from : {p x : ℕ} → Passed st u b new p → x ≡ get_or index (from (room st.nodes) b p) 0 → Walks st index u b new p x
  walks_from {p} {x} w e = record { begins = λ d. e ∙ ap (λ (i : ℕ). get_or index (from (room st.nodes) b i) 0) d; steps = λ m d. e ∙ ap (λ (i : ℕ). get_or index (from (room st.nodes) b i) 0) d; passed = w }

  pub walks_within : {p x : ℕ} → 0 < x → Walks st index u b new p x → (x ≤ u) × (bucket_at st (x - 1) ≡ b)
  walks_within {x = zero} l w = absurd (omega arith)
  walks_within {x = suc a} l w = let h = walk_at strict inside z.indexed.chains b b_lt parts a w in (h.0, ap (bucket_at st) (one_less a) ∙ h.1)

  pub walks_on : {p x y : ℕ} → 0 < x → Walks st index u b new p x → Low st new (x - 1) → y ≡ get_or index (room st.nodes + (x - 1)) 0 → Walks st index u b new x y
  walks_on {x = zero} l w h e = absurd (omega arith)
  walks_on {x = suc a} l w h e = subst (Walks st index u b new (suc a)) (sym (e ∙ ap (λ (i : ℕ). get_or index (room st.nodes + i) 0) (one_less a))) (walk_on strict inside z.indexed.chains b b_lt parts a w (subst (Low st new) (one_less a) h))

  pub walks_near : {p x y : ℕ} → 0 < x → Walks st index u b new p x → y ≡ get_or index (room st.nodes + (x - 1)) 0 → far st y < far st x
  walks_near {x = zero} l w e = absurd (omega arith)
  walks_near {x = suc a} l w e = subst (λ (y : ℕ). far st y < far st (suc a)) (sym (e ∙ ap (λ (i : ℕ). get_or index (room st.nodes + i) 0) (one_less a))) (walk_nears strict inside z.indexed.chains b b_lt (room st.nodes) z.records.fits a (walks_within l w).0)

  -- so does the first step from a node that the walk may go on from
  pub walks_leave : {p x : ℕ} → 0 < p → Passed st u b new p → x ≡ get_or index (from (room st.nodes) b p) 0 → far st x < far st p
  walks_leave {p = zero} l w e = absurd (omega arith)
  walks_leave {p = suc a} l w e = subst (λ (y : ℕ). far st y < far st (suc a)) (sym e) (walk_nears strict inside z.indexed.chains b b_lt (room st.nodes) z.records.fits a (w a refl).0)

  -- the place, before a node that stands behind or at the end of the chain
  pub walks_stop : {p x : ℕ} → 0 < x → Walks st index u b new p x → High st new (x - 1) → Place st u b new p x
  walks_stop {x = zero} l w h = absurd (omega arith)
  walks_stop {x = suc a} l w h = walk_ends strict inside z.indexed.chains b b_lt parts w (λ i e. subst (High st new) (one_less a ∙ (let c : a ≡ i = omega arith in c)) h)

  pub walks_end : {p x : ℕ} → x ≡ 0 → Walks st index u b new p x → Place st u b new p 0
  walks_end {p} e w = walk_ends strict inside z.indexed.chains b b_lt parts (subst (Walks st index u b new p) e w) (λ i d. absurd (omega arith))

-- How a node of a sound table stands to a content with this front: by its hash word k, and then by its front.
module _ {st : Store} {index : List ℕ} {u : ℕ} (z : SoundLent st index u) {n k : ℕ} (l : n < u) (word : k ≡ get_or index (room st.nodes * 3 + n) 0) where
  key_word : key_at st n ≡ k ∷ (front_at st n ++ rest_at st n (count_at st.nodes n))
  key_word = key_front st n (z.records.rules n l).many ∙ ap (λ (i : ℕ). i ∷ (front_at st n ++ rest_at st n (count_at st.nodes n))) (sym (word ∙ z.indexed.hashes n l))

  module _ (h : ℕ) (f : Front) where
    pub hash_low : (rest : List ℕ) → k < h → Low st (fronted h f rest) n
    hash_low rest g = subst (λ (c : List ℕ). less c (fronted h f rest) ≡ true) (sym key_word) (less_smaller k h _ (front_of f ++ rest) g)

    pub hash_high : (rest : List ℕ) → h < k → High st (fronted h f rest) n
    hash_high rest g = subst (λ (c : List ℕ). less (fronted h f rest) c ≡ true) (sym key_word) (less_smaller h k (front_of f ++ rest) _ g)

    module _ (e : k ≡ h) {r : ℕ} (o : Ordered (front_at st n) (front_of f) r) where
      pub front_low : (rest : List ℕ) → r ≡ 0 → Low st (fronted h f rest) n
      front_low rest g = subst (λ (c : List ℕ). less c (fronted h f rest) ≡ true) (sym key_word) (less_equal k h _ (front_of f ++ rest) e ∙ less_append (front_at st n) (front_of f) _ rest refl (o.before g))

      pub front_high : (rest : List ℕ) → 1 < r → High st (fronted h f rest) n
      front_high rest g = subst (λ (c : List ℕ). less (fronted h f rest) c ≡ true) (sym key_word) (less_equal h k (front_of f ++ rest) _ (sym e) ∙ less_append (front_of f) (front_at st n) rest _ refl (o.behind g))

      pub front_same : r ≡ 1 → key_at st n ≡ fronted h f (rest_at st n (count_at st.nodes n))
      front_same g = key_word ∙ (let d = o.same g in λ i. e i ∷ (d i ++ rest_at st n (count_at st.nodes n)))

-- What a search comes to: a node with the front,
pub sought_node : (st : Store) (index : List ℕ) (u h : ℕ) (f : Front) (rest : List ℕ) {p x q : ℕ} → 0 < x → Walks st index u (bucket_of st h) (fronted h f rest) p x → key_at st (x - 1) ≡ fronted h f (rest_at st (x - 1) (count_at st.nodes (x - 1)))
    → Sought st index u h f rest (record { at = x; before = p; behind = q })
sought_node st index u h f rest {p} {x} l w e = record {
  walks = λ g. w;
  front = λ m g. subst (λ (n : ℕ). key_at st n ≡ fronted h f (rest_at st n (count_at st.nodes n))) (let a : x - 1 ≡ m = omega arith in a) e;
  placed = λ g. absurd (omega arith);
}

-- or a place
pub sought_place : (st : Store) (index : List ℕ) (u h : ℕ) (f : Front) (rest : List ℕ) {p q : ℕ} → Place st u (bucket_of st h) (fronted h f rest) p q → Sought st index u h f rest (record { at = 0; before = p; behind = q })
sought_place st index u h f rest w = record { walks = λ g. absurd (omega arith); front = λ m g. absurd (omega arith); placed = λ g. w }

-- The search as a loop: it has come from the word p, and stands at the word x.
pub record Going (st : Store) (index : List ℕ) (h : ℕ) (f : Front) (start p x : ℕ) : Type 0 where
  pub walks : (u : ℕ) → SoundLent st index u → (rest : List ℕ) → Passed st u (bucket_of st h) (fronted h f rest) start → Walks st index u (bucket_of st h) (fronted h f rest) p x
  pub nearer : 0 < start → far st x < far st start

module _ (st : Store) (index : List ℕ) (h : ℕ) (f : Front) (start : ℕ) (some : 1 ≤ room st.nodes) (small : h < 4294967296) (k : Seekable st index h f start) where
  abbrev b : ℕ
  b = bucket_of st h

  b_lt : bucket_of st h < room st.nodes
  b_lt = laws.scaled_lt h (room st.nodes) small some

  pub going_from : start ≤ room st.nodes
  going_from = omega (arith, passed_within st k.used b (fronted h f k.rest) start k.passed, k.sound.records.fits)

  pub going_starts : {x : ℕ} → x ≡ get_or index (from (room st.nodes) (bucket_of st h) start) 0 → Going st index h f start start x
  going_starts e = record { walks = λ u z rest w. walks_from z b b_lt (fronted h f rest) w e; nearer = λ l. walks_leave k.sound b b_lt (fronted h f k.rest) l k.passed e }

  module _ {p x : ℕ} (g : Going st index h f start p x) where
    module _ (l : 0 < x) where
      at_walk : Walks st index k.used b (fronted h f k.rest) p x
      at_walk = g.walks k.used k.sound k.rest k.passed

      pub going_within : x ≤ k.used
      going_within = (walks_within k.sound b b_lt (fronted h f k.rest) l at_walk).0

      pub going_on : {y : ℕ} → y ≡ get_or index (room st.nodes + (x - 1)) 0 → ((u : ℕ) → SoundLent st index u → x - 1 < u → (rest : List ℕ) → Low st (fronted h f rest) (x - 1)) → Going st index h f start x y
      going_on e low = record {
        walks = λ u z rest w. let v = g.walks u z rest w in walks_on z b b_lt (fronted h f rest) l v (low u z (omega (arith, (walks_within z b b_lt (fronted h f rest) l v).0)) rest) e;
        nearer = λ i. omega (arith, g.nearer i, walks_near k.sound b b_lt (fronted h f k.rest) l at_walk e);
      }

      pub going_falls : {y : ℕ} → y ≡ get_or index (room st.nodes + (x - 1)) 0 → far st y < far st x
      going_falls e = walks_near k.sound b b_lt (fronted h f k.rest) l at_walk e

      pub seeks_node : {q : ℕ} → key_at st (x - 1) ≡ fronted h f (rest_at st (x - 1) (count_at st.nodes (x - 1))) → Seeks st index h f start (record { at = x; before = p; behind = q })
      seeks_node e = record { sought = λ u z rest w. sought_node st index u h f rest l (g.walks u z rest w) e; nearer = g.nearer }

      pub seeks_stop : ((u : ℕ) → SoundLent st index u → x - 1 < u → (rest : List ℕ) → High st (fronted h f rest) (x - 1)) → Seeks st index h f start (record { at = 0; before = p; behind = x })
      seeks_stop high = record {
        sought = λ u z rest w. let v = g.walks u z rest w in sought_place st index u h f rest (walks_stop z b b_lt (fronted h f rest) l v (high u z (omega (arith, (walks_within z b b_lt (fronted h f rest) l v).0)) rest));
        nearer = λ i. far_ends st start i;
      }

    pub seeks_end : x ≡ 0 → Seeks st index h f start (record { at = 0; before = p; behind = 0 })
    seeks_end e = record { sought = λ u z rest w. sought_place st index u h f rest (walks_end z b b_lt (fronted h f rest) e (g.walks u z rest w)); nearer = λ i. far_ends st start i }
