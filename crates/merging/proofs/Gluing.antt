-- Edges put into slots one after another, each next to the last or in its place where the children are equal, are merged edges.
-- Assumes nothing.
use mathlib.Core.Path.{◌≡◌, refl, sym, ◌∙◌, ap}
use Prim.Native.Nat.{ℕ, zero, suc, ◌+◌, ◌-◌, ◌<◌}
use native.Mathlib.Omega.{arith}
use native.Mathlib.Decide.{ℕ_discrete}
use Rattle.diagram.specs.Pieces.{Pieces, last, cut}
use Rattle.diagram.specs.Shape.{first, count, run}
use Rattle.diagram.proofs.Piecewise.{count_pos}
use Rattle.diagram.proofs.Numbered.{first_run}
use Rattle.algebra.specs.Overlay.{join, merge}
use Rattle.algebra.proofs.Overlays.{join_same, join_other}

-- n edges, whose children are c and whose cuts are k, joined before r
unfoldable pub glued : (ℕ → ℕ) → (ℕ → ℕ) → ℕ → Pieces ℕ → Pieces ℕ
glued c k zero r = r
glued c k (suc n) r = glued c k n (join (c n) (k n) r)

-- n edges so far, no two neighbours alike, and the rest: together the whole
pub record Glue (c k : ℕ → ℕ) (n : ℕ) (whole rest : Pieces ℕ) : Type 0 where
  pub equal : glued c k n (merge rest) ≡ merge whole
  pub apart : (i : ℕ) → i + 1 < n → c i ≡ c (i + 1) → ⊥

-- the slot of the next edge, to the child d: the last one again if its child is d, else a new one
pub data Slot (c : ℕ → ℕ) (n d : ℕ) : ℕ → Type 0 where
  next : (0 < n → c (n - 1) ≡ d → ⊥) → Slot c n d n
  again : 0 < n → c (n - 1) ≡ d → Slot c n d (n - 1)

-- the edges below a slot stay
abbrev pub Keeps : (c k c' k' : ℕ → ℕ) → ℕ → Type 0
Keeps c k c' k' s = (i : ℕ) → i < s → (c' i ≡ c i) × (k' i ≡ k i)

-- an edge to the child d put into its slot s; its cut, if it has one, is said apart
pub record Put (c k c' k' : ℕ → ℕ) (n s d : ℕ) : Type 0 where
  pub slot : Slot c n d s
  pub keeps : Keeps c k c' k' s
  pub child : c' s ≡ d

-- joined edges begin with the child that was joined, so joining the same child again adds nothing
first_join : (c k : ℕ) (r : Pieces ℕ) → first (join c k r) ≡ c
first_join c k r = go (ℕ_discrete c (first r))
  where
    go : Dec (c ≡ first r) → first (join c k r) ≡ c
    go (yes q) = ap first (join_same c k r q) ∙ sym q
    go (no n) = ap first (join_other c k r n)

pub first_merge : (e : Pieces ℕ) → first (merge e) ≡ first e
unfolding merge
first_merge (last c) = refl
first_merge (cut c k e) = first_join c k (merge e)

join_twice : (c d k l : ℕ) (r : Pieces ℕ) → c ≡ d → join c k (join d l r) ≡ join d l r
join_twice c d k l r q = join_same c k (join d l r) (q ∙ sym (first_join d l r))

glued_same : (c k c' k' : ℕ → ℕ) (n : ℕ) (r : Pieces ℕ) → Keeps c k c' k' n → glued c' k' n r ≡ glued c k n r
unfolding glued
glued_same c k c' k' zero r a = refl
glued_same c k c' k' (suc n) r a = rw ((a n (omega arith)).0, (a n (omega arith)).1) (glued_same c k c' k' n (join (c n) (k n) r) (λ i h. a i (omega arith)))

glued_put : (c k c' k' : ℕ → ℕ) (s d l : ℕ) (r : Pieces ℕ) → Keeps c k c' k' s → c' s ≡ d → k' s ≡ l → glued c' k' (s + 1) r ≡ glued c k s (join d l r)
unfolding glued
glued_put c k c' k' s d l r a p q =
    let n : s + 1 ≡ suc s = omega arith in
    rw (n, p, q) (glued_same c k c' k' s (join d l r) a)

-- nothing yet
pub glue_none : (c k : ℕ → ℕ) (whole : Pieces ℕ) → Glue c k 0 whole whole
unfolding glued
glue_none c k whole = record { equal = refl; apart = λ i h. absurd (omega arith) }

-- what the edges up to and with a slot come to, for the two ways to choose it
module _ (c k c' k' : ℕ → ℕ) (n d l : ℕ) (r : Pieces ℕ) where
  slot_glued : (s : ℕ) → Slot c n d s → Keeps c k c' k' s → c' s ≡ d → k' s ≡ l → glued c' k' (s + 1) r ≡ glued c k n (join d l r)
  unfolding glued
  slot_glued s (next h) a p q = glued_put c k c' k' n d l r a p q
  slot_glued s (again h e) a p q =
      let m : n ≡ suc (n - 1) = omega arith in
      glued_put c k c' k' (n - 1) d l r a p q ∙ sym (ap (glued c k (n - 1)) (join_twice (c (n - 1)) d (k (n - 1)) l r e)) ∙ sym (ap (λ (i : ℕ). glued c k i (join d l r)) m)

slot_apart : (c c' : ℕ → ℕ) (n s d : ℕ) → Slot c n d s → ((i : ℕ) → i + 1 < n → c i ≡ c (i + 1) → ⊥) → ((i : ℕ) → i < s → c' i ≡ c i) → c' s ≡ d
    → (i : ℕ) → i < s → c' i ≡ c' (i + 1) → ⊥
slot_apart c c' n s d (next h) g a p i l q = go (ℕ_discrete (i + 1) n)
  where
    go : Dec (i + 1 ≡ n) → ⊥
    go (yes e) = let j : n - 1 ≡ i = omega arith in h (omega arith) (rw j (sym (a i l) ∙ q ∙ ap c' e ∙ p))
    go (no m) = g i (omega arith) (sym (a i l) ∙ q ∙ a (i + 1) (omega arith))
slot_apart c c' n s d (again h f) g a p i l q = go (ℕ_discrete (i + 1) (n - 1))
  where
    go : Dec (i + 1 ≡ n - 1) → ⊥
    go (yes e) = g i (omega arith) (sym (a i l) ∙ q ∙ ap c' e ∙ p ∙ sym f ∙ sym (ap c e))
    go (no m) = g i (omega arith) (sym (a i l) ∙ q ∙ a (i + 1) (omega arith))

pub put_apart : (c k c' k' : ℕ → ℕ) (n s d : ℕ) (whole rest : Pieces ℕ) → Glue c k n whole rest → Put c k c' k' n s d → (i : ℕ) → i < s → c' i ≡ c' (i + 1) → ⊥
put_apart c k c' k' n s d whole rest g p = slot_apart c c' n s d p.slot g.apart (λ j m. (p.keeps j m).0) p.child

-- one edge more
pub glue_step : (c k c' k' : ℕ → ℕ) (n s d l : ℕ) (whole rest : Pieces ℕ) → Glue c k n whole (cut d l rest) → Put c k c' k' n s d → k' s ≡ l → Glue c' k' (s + 1) whole rest
unfolding merge
glue_step c k c' k' n s d l whole rest g p q = record {
  equal = slot_glued c k c' k' n d l (merge rest) s p.slot p.keeps p.child q ∙ g.equal;
  apart = λ i h. put_apart c k c' k' n s d whole (cut d l rest) g p i (omega arith);
}

-- edges of which no two neighbours are alike stay as they are
glued_run : (c k : ℕ → ℕ) (j m : ℕ) → ((i : ℕ) → i < j → c i ≡ c (i + 1) → ⊥) → glued c k j (run c k j m) ≡ run c k 0 (j + m)
unfolding glued run
glued_run c k zero m a = let z : m ≡ 0 + m = omega arith in ap (run c k 0) z
glued_run c k (suc j) m a =
    let n : suc j ≡ j + 1 = omega arith in
    let z : j + suc m ≡ suc j + m = omega arith in
    ap (glued c k j) (join_other (c j) (k j) (run c k (suc j) m) (λ e. a j (omega arith) (e ∙ first_run c k (suc j) m ∙ ap c n)))
    ∙ glued_run c k j (suc m) (λ i h. a i (omega arith)) ∙ ap (run c k 0) z

-- the last edge: what stands in the slots is the whole, merged
pub run_is_merge : (c k c' k' : ℕ → ℕ) (n s d : ℕ) (whole : Pieces ℕ) → Glue c k n whole (last d) → Put c k c' k' n s d → run c' k' 0 s ≡ merge whole
unfolding glued merge run
run_is_merge c k c' k' n s d whole g p =
    let z : s + 0 ≡ s = omega arith in
    sym (ap (run c' k' 0) z) ∙ sym (glued_run c' k' s 0 (put_apart c k c' k' n s d whole (last d) g p)) ∙ ap (λ (b : ℕ). glued c' k' s (last b)) p.child
    ∙ closing s p.slot p.keeps ∙ g.equal
  where
    closing : (s : ℕ) → Slot c n d s → Keeps c k c' k' s → glued c' k' s (last d) ≡ glued c k n (last d)
    closing s (next h) a = glued_same c k c' k' n (last d) a
    closing s (again h e) a =
        let m : n ≡ suc (n - 1) = omega arith in
        glued_same c k c' k' (n - 1) (last d) a ∙ sym (ap (glued c k (n - 1)) (join_same (c (n - 1)) (k (n - 1)) (last d) e)) ∙ sym (ap (λ (i : ℕ). glued c k i (last d)) m)

-- the whole has more edges than there are so far, if the next has another child than the last
glued_count : (c k : ℕ → ℕ) (n : ℕ) (r : Pieces ℕ) → ((i : ℕ) → i + 1 < n → c i ≡ c (i + 1) → ⊥) → (0 < n → c (n - 1) ≡ first r → ⊥) → count (glued c k n r) ≡ n + count r
unfolding glued
glued_count c k zero r a h = omega arith
glued_count c k (suc n) r a h =
    let e : suc n - 1 ≡ n = omega arith in
    let j = join_other (c n) (k n) r (λ q. h (omega arith) (rw e q)) in
    rw j (glued_count c k n (cut (c n) (k n) r) (λ i l. a i (omega arith)) (before n a) ∙ omega arith)
  where
    before : (n : ℕ) → ((i : ℕ) → i + 1 < suc n → c i ≡ c (i + 1) → ⊥) → 0 < n → c (n - 1) ≡ c n → ⊥
    before n a l q = let e : n - 1 + 1 ≡ n = omega arith in a (n - 1) (omega arith) (rw e q)

pub glued_below_count : (c k : ℕ → ℕ) (n : ℕ) (whole rest : Pieces ℕ) → Glue c k n whole rest → (0 < n → c (n - 1) ≡ first rest → ⊥) → n < count (merge whole)
glued_below_count c k n whole rest g h =
    omega (arith, ap count g.equal, glued_count c k n (merge rest) g.apart (λ l q. h l (q ∙ first_merge rest)), count_pos (merge rest))
