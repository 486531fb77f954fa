-- The memo's laws: what a hit says, what a store leaves, and that what stays true stays noted. Assumes nothing.
use mathlib.Core.Path.{◌≡◌, refl, sym, ◌∙◌, ap, subst}
use mathlib.Core.List.{List}
use mathlib.Core.Logic.{◌⊎◌, inl, inr}
use Prim.Native.Nat.{ℕ, ◌+◌, ◌*◌, ◌/◌, ◌%◌, ◌≤◌, ◌<◌}
use native.Mathlib.Omega.{arith}
use native.Mathlib.Decide.{ℕ_discrete}
use lib.ListN.{length, get_or, set, replicate, length-set}
use lib.Seq.{get_or-set_same, get_or-set_other}
use Rattle.table.proofs.Promises.{no_word}
use Rattle.memo.specs.Recalling.{first_of, second_of, answer_of, Tells, sets_in, Framed, Memo, Ordered, as_given, turned, Found, Hit, Put, Was, silent, stood, new, Kept, Readied, Noted}

-- A hit is an entry of the memo.
pub hit_was_noted : {P : ℕ → ℕ → ℕ → Type 0} {memo : List ℕ} {x y z : ℕ} → Memo P memo → 1 ≤ x → Hit memo x y z → P x y z
hit_was_noted {P} m l h = rw (← h.tells.first, ← h.tells.second, ← h.tells.third) (m.entry h.place (omega (arith, h.tells.first)))

-- A word that was found for a pair is a hit of it.
pub found_is_hit : {memo : List ℕ} {x y w : ℕ} → x < 262144 → y < 262144 → Found memo (x * 262144 + y) w → 0 < w → Hit memo x y (w % 262144)
found_is_hit a b (inl e) l = absurd (omega arith)
found_is_hit {memo} {x} {y} {w} a b (inr (i, e, p)) l = record { place = i; tells = subst (Tells x y (w % 262144)) (sym e) (record { first = omega (arith, p); second = omega (arith, p); third = refl }) }

-- What holds of two ids holds of them in either order.
pub in_either_order : (P : ℕ → Type 0) {x y a b : ℕ} → Ordered x y a b → P x → P y → P a × P b
in_either_order P as_given p q = (p, q)
in_either_order P turned p q = (q, p)

-- What was noted leaves a true memo true, where the new answer is.
pub noted_true : {P : ℕ → ℕ → ℕ → Type 0} {memo memo' : List ℕ} {x y z : ℕ} → Memo P memo → P x y z → Noted memo x y z memo' → Memo P memo'
noted_true {P} {memo} {memo'} {x} {y} {z} m e o = record { framed = o.framed; entry = λ i p. go i p (o.word i) }
  where
    go : (i : ℕ) → 0 < first_of (get_or memo' i 0) → Was memo (Tells x y z) (get_or memo' i 0) → P (first_of (get_or memo' i 0)) (second_of (get_or memo' i 0)) (answer_of (get_or memo' i 0))
    go i p (silent q) = absurd (omega (arith, q))
    go i p (stood j q) = subst (λ (w : ℕ). 0 < first_of w → P (first_of w) (second_of w) (answer_of w)) q (m.entry j) p
    go i p (new t) = rw (t.first, t.second, t.third) e

-- What stays true of each entry stays true of the memo: nodes may be made between two looks at it.
pub memo_still : {P Q : ℕ → ℕ → ℕ → Type 0} {memo : List ℕ} → ((x y z : ℕ) → P x y z → Q x y z) → Memo P memo → Memo Q memo
memo_still h m = record { framed = m.framed; entry = λ k p. h _ _ _ (m.entry k p) }

-- A memo of zeros says nothing, of any table: each operation starts with one.
pub framed_zeroed : (n : ℕ) → Framed (replicate n 0)
framed_zeroed n = record { within = omega (arith, no_word n 0); tail = λ i l. no_word n i }

pub memo_zeroed : {P : ℕ → ℕ → ℕ → Type 0} (n : ℕ) → Memo P (replicate n 0)
memo_zeroed n = record { framed = framed_zeroed n; entry = λ k p. absurd (omega (arith, no_word n k)) }

-- The words after a store.
module _ {memo memo' : List ℕ} {limit w : ℕ} (p : Put memo limit w memo') where
  pub put_long : length memo' ≡ length memo
  put_long = ap length p.words ∙ length-set memo p.place w

  put_other : (i : ℕ) → (i ≡ p.place → ⊥) → get_or memo' i 0 ≡ get_or memo i 0
  put_other i n = ap (λ (m : List ℕ). get_or m i 0) p.words ∙ get_or-set_other memo p.place i w 0 n

  put_here : limit ≤ length memo → get_or memo' p.place 0 ≡ w
  put_here l = ap (λ (m : List ℕ). get_or m p.place 0) p.words ∙ get_or-set_same memo p.place w 0 (omega (arith, p.below))

  pub put_head : get_or memo' 0 0 ≡ get_or memo 0 0
  put_head = put_other 0 (λ e. omega (arith, p.entry))

  pub put_behind : (i : ℕ) → limit ≤ i → get_or memo' i 0 ≡ get_or memo i 0
  put_behind i l = put_other i (λ e. omega (arith, p.below))

  -- Each is the new one or stood there.
  pub put_word : limit ≤ length memo → (i : ℕ) → (get_or memo' i 0 ≡ w) ⊎ (get_or memo' i 0 ≡ get_or memo i 0)
  put_word l i = go (ℕ_discrete i p.place)
    where
      go : Dec (i ≡ p.place) → (get_or memo' i 0 ≡ w) ⊎ (get_or memo' i 0 ≡ get_or memo i 0)
      go (yes e) = inl (ap (λ (j : ℕ). get_or memo' j 0) e ∙ put_here l)
      go (no n) = inr (put_other i n)

-- No entry has come, from one memo to the next and the next.
pub kept_same : (memo : List ℕ) (limit : ℕ) → Kept memo limit memo
kept_same memo limit = record { long = refl; head = refl; behind = λ i l. refl; word = λ i. stood i refl }

was_before : {memo memo' : List ℕ} {New : ℕ → Type 0} → ((i : ℕ) → Was memo (λ w. ⊥) (get_or memo' i 0)) → {w : ℕ} → Was memo' New w → Was memo New w
was_before k (silent e) = silent e
was_before k (new n) = new n
was_before {memo} {memo'} {New} k {w} (stood i e) = subst (Was memo New) e (go (k i))
  where
    go : {v : ℕ} → Was memo (λ u. ⊥) v → Was memo New v
    go (silent q) = silent q
    go (stood j q) = stood j q
    go (new q) = absurd q

pub kept_then_kept : {memo memo' memo'' : List ℕ} {limit : ℕ} → Kept memo limit memo' → Kept memo' limit memo'' → Kept memo limit memo''
kept_then_kept a b = record { long = b.long ∙ a.long; head = b.head ∙ a.head; behind = λ i l. b.behind i l ∙ a.behind i l; word = λ i. was_before a.word (b.word i) }

-- A word that is taken out and written elsewhere.
pub moved_kept : {memo memo' : List ℕ} {limit : ℕ} (i : ℕ) → 1 ≤ i → i < limit → limit ≤ length memo → Put (set memo i 0) limit (get_or memo i 0) memo' → Kept memo limit memo'
moved_kept {memo} {memo'} {limit} i a b l p = record {
  long = put_long p ∙ length-set memo i 0;
  head = put_head p ∙ get_or-set_other memo i 0 0 0 (λ e. omega arith);
  behind = λ k h. put_behind p k h ∙ get_or-set_other memo i k 0 0 (λ e. omega arith);
  word = λ k. go k (put_word p (rw (length-set memo i 0) l) k) (ℕ_discrete k i);
}
  where
    go : (k : ℕ) → (get_or memo' k 0 ≡ get_or memo i 0) ⊎ (get_or memo' k 0 ≡ get_or (set memo i 0) k 0) → Dec (k ≡ i) → Was memo (λ w. ⊥) (get_or memo' k 0)
    go k (inl e) d = stood i (sym e)
    go k (inr e) (no n) = stood k (sym (e ∙ get_or-set_other memo i k 0 0 n))
    go k (inr e) (yes q) =
        let z : get_or memo' k 0 ≡ 0 = e ∙ (ap (λ (j : ℕ). get_or (set memo i 0) j 0) q ∙ get_or-set_same memo i 0 0 (omega arith)) in
        silent (omega (arith, z))

-- The head is written: it says how many sets are in use, and is no entry.
module _ {memo memo' : List ℕ} {limit : ℕ} (k : Kept memo limit memo') (r h : ℕ) (some : 1 ≤ length memo) (sets : h / 262144 ≡ r) (no-id : first_of h ≡ 0) where
  head_here : get_or (set memo' 0 h) 0 0 ≡ h
  head_here = get_or-set_same memo' 0 h 0 (omega (arith, k.long))

  head_sets : sets_in (set memo' 0 h) ≡ r
  head_sets = ap (λ (w : ℕ). w / 262144) head_here ∙ sets

  pub headed_readied : 1 ≤ r → r * 8 ≤ length memo → ((i : ℕ) → r * 8 ≤ i → get_or memo' i 0 ≡ 0) → Readied memo r (set memo' 0 h)
  headed_readied s inside tail = record {
    long = length-set memo' 0 h ∙ k.long;
    some = s;
    sets = head_sets;
    framed = record {
      within = omega (arith, head_sets, length-set memo' 0 h, k.long);
      tail = λ i l. get_or-set_other memo' 0 i h 0 (λ e. omega (arith, head_sets)) ∙ tail i (omega (arith, head_sets));
    };
    word = λ i. go i (ℕ_discrete i 0);
  }
    where
      go : (i : ℕ) → Dec (i ≡ 0) → Was memo (λ w. ⊥) (get_or (set memo' 0 h) i 0)
      go i (yes e) = silent (ap (λ (j : ℕ). first_of (get_or (set memo' 0 h) j 0)) e ∙ (ap first_of head_here ∙ no-id))
      go i (no n) = subst (Was memo (λ w. ⊥)) (sym (get_or-set_other memo' 0 i h 0 n)) (k.word i)

-- Sets that are in use are ready.
pub framed_readied : {memo : List ℕ} → Framed memo → 1 ≤ sets_in memo → Readied memo (sets_in memo) memo
framed_readied f l = record { long = refl; some = l; sets = refl; framed = f; word = λ i. stood i refl }

-- Sets are ready, and the answer is put into one.
pub put_noted : {memo memo' memo'' : List ℕ} {r w x y z : ℕ} → Readied memo r memo' → Tells x y z w → Put memo' (r * 8) w memo'' → Noted memo x y z memo''
put_noted {memo} {memo'} {memo''} {r} {w} {x} {y} {z} a t p = record {
  long = put_long p ∙ a.long;
  framed = record { within = omega (arith, sets, a.sets, a.framed.within, put_long p); tail = λ i l. put_behind p i (omega (arith, sets, a.sets)) ∙ a.framed.tail i (omega (arith, sets)) };
  word = λ i. go i (put_word p (omega (arith, a.sets, a.framed.within)) i);
}
  where
    sets : sets_in memo'' ≡ sets_in memo'
    sets = ap (λ (h : ℕ). h / 262144) (put_head p)

    go : (i : ℕ) → (get_or memo'' i 0 ≡ w) ⊎ (get_or memo'' i 0 ≡ get_or memo' i 0) → Was memo (Tells x y z) (get_or memo'' i 0)
    go i (inl e) = new (subst (Tells x y z) (sym e) t)
    go i (inr e) = was_before {memo' = memo'} a.word (stood i (sym e))
