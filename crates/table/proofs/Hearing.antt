-- The outcomes of the public calls: each input has one, and what the functions behind them decide is that one. Assumes nothing.
use mathlib.Core.Path.{◌≡◌, refl, sym, ◌∙◌, ap, subst, fun_ext}
use mathlib.Core.Bool.{Bool, true, false, cond}
use Rattle.std.specs.Prelude.{Option, Some, None, Result}
use Rattle.std.specs.Option.{ok_or}
use mathlib.Core.List.{List}
use Prim.Native.Nat.{ℕ, zero, suc, ◌-◌, ◌<◌}
use native.Mathlib.Omega.{arith}
use lib.Dec.{eqb, leb}
use lib.ListN.{length, replicate}
use lib.IntN.{ℤ, pos}
use borrow.Author.Tests.{ltb-true, leb-true, leb-false}
use Rattle.ids.specs.Id.{ref, KnownTo}
use Rattle.ranges.specs.Line.{position}
use Rattle.diagram.specs.Table.{first_boolean, is_range, value}
use Rattle.diagram.specs.Reading.{positions}
use Rattle.table.specs.Layout.{cut_at, start, cut_position, Store, store}
use Rattle.table.specs.Lent.{SoundLent}
use Rattle.table.specs.Held.{held}
use Rattle.table.specs.Told.{number_of, number_in, nodes_in, edges_in, Allowed, Checks, checked_1, checked_2, checked_0, Freshens, freshened_1, freshened_0, Places, bit, reading_of, Refuses, refused_1, refused_2, refused_3, refused_last, Replies, reply_no, reply_0, Hears}
use Rattle.table.specs.Checking.{spots, Judges, sound, found, nodes_found, edges_found}
use Rattle.table.specs.declared.lent.Used.{Used}
use Rattle.table.specs.declared.refusal.Refusal.{Refusal}
use Rattle.table.specs.declared.refusal.Refusal.TheVariants.{WrongRoom, NotSound, UnknownId, WrongVariable, BeyondPlaces, NoRoom}
use Rattle.table.proofs.CutPositions.{cut_position_place}
use Rattle.table.proofs.Once.{sound_once}
use Rattle.table.proofs.Laws.{judged_no}

-- the positions that the code reads are those of document 01's reading
pub spots_reading : (places : List ℤ) (bools : ℕ) (ok : Places places) → spots places bools ≡ positions (reading_of places bools ok)
unfolding spots
spots_reading places bools ok = fun_ext (λ v. go v (is_range v) refl)
  where
    digit : (n : ℕ) → n < 2 → 1 - n ≡ cond (eqb n 1) 0 1
    digit zero h = refl
    digit (suc zero) h = refl
    digit (suc (suc n)) h = absurd (omega arith)

    go : (v : ℕ) (b : Bool) → is_range v ≡ b
        → cond b (cut_position (cut_at places v)) (1 - bit bools (v - first_boolean)) ≡ cond b (position (cut_at places v)) (cond (eqb (bit bools (v - first_boolean)) 1) 0 1)
    go v true e = cut_position_place (cut_at places v) (ok v (ltb-true v first_boolean e))
    go v false e = digit (bit bools (v - first_boolean)) (omega arith)

-- the range test decides whether an id is known
pub known_when_true : (u id : ℕ) {b : Bool} → b ≡ leb (ref id) u → b ≡ true → KnownTo u id
known_when_true u id e t = leb-true (ref id) u (sym e ∙ t)

pub unknown_when_false : (u id : ℕ) {b : Bool} → b ≡ leb (ref id) u → b ≡ false → KnownTo u id → ⊥
unknown_when_false u id e f k = omega (arith, leb-false (ref id) u (sym e ∙ f))

-- what holds of one number of used nodes holds of the other
as_used : {st : Store} {index : List ℕ} {u u' : ℕ} (P : ℕ → Type 0) → SoundLent st index u → SoundLent st index u' → P u → P u'
as_used {st} {index} {u} {u'} P s s' k = subst P (sound_once st index u u' s s') k

-- The number of a refusal is not 0.
pub refusal_not_done : (e : Refusal) → number_of e ≡ 0 → ⊥
refusal_not_done WrongRoom h = omega arith
refusal_not_done NotSound h = omega arith
refusal_not_done UnknownId h = omega arith
refusal_not_done WrongVariable h = omega arith
refusal_not_done BeyondPlaces h = omega arith
refusal_not_done NoRoom h = omega arith

-- A refusal before any work.
module _ {lent : Type 0} {known : ℕ → Type 0} {last : ℕ} {right : Type 0} {st : Store} {index : List ℕ} where
  -- rows 1 and 2 are the check's; the other lengths that a call is lent are right
  pub check_refuses : {k u e : ℕ} → (Allowed st index → lent) → (lent → Allowed st index) → Checks st index k u e → (k ≡ 0 → ⊥) → Refuses lent known last right st index k
  check_refuses to from (checked_1 f) n = refused_1 (λ l. f (from l))
  check_refuses to from (checked_2 a f) n = refused_2 (to a) f
  check_refuses to from (checked_0 a u s) n = absurd (n refl)

  -- where every check passes there is none,
  pub not_refused : {k u : ℕ} → lent → SoundLent st index u → known u → right → Refuses lent known last right st index k → ⊥
  not_refused l s a p (refused_1 f) = f l
  not_refused l s a p (refused_2 l' f) = f _ s
  not_refused l s a p (refused_3 l' u' s' f) = f (as_used known s s' a)
  not_refused l s a p (refused_last l' u' s' a' f) = f p

  -- its number is not 0,
  pub refused_not_done : {k : ℕ} → (last ≡ 0 → ⊥) → Refuses lent known last right st index k → k ≡ 0 → ⊥
  refused_not_done n (refused_1 f) e = omega arith
  refused_not_done n (refused_2 l f) e = omega arith
  refused_not_done n (refused_3 l u s f) e = omega arith
  refused_not_done n (refused_last l u s a f) e = n e

  -- and there is one number.
  pub refuses_once : {k k' : ℕ} → Refuses lent known last right st index k → Refuses lent known last right st index k' → k ≡ k'
  refuses_once (refused_1 f) (refused_1 g) = refl
  refuses_once (refused_1 f) (refused_2 l g) = absurd (f l)
  refuses_once (refused_1 f) (refused_3 l u s g) = absurd (f l)
  refuses_once (refused_1 f) (refused_last l u s a g) = absurd (f l)
  refuses_once (refused_2 l f) (refused_1 g) = absurd (g l)
  refuses_once (refused_2 l f) (refused_2 l' g) = refl
  refuses_once (refused_2 l f) (refused_3 l' u s g) = absurd (f u s)
  refuses_once (refused_2 l f) (refused_last l' u s a g) = absurd (f u s)
  refuses_once (refused_3 l u s f) (refused_1 g) = absurd (g l)
  refuses_once (refused_3 l u s f) (refused_2 l' g) = absurd (g u s)
  refuses_once (refused_3 l u s f) (refused_3 l' u' s' g) = refl
  refuses_once (refused_3 l u s f) (refused_last l' u' s' a g) = absurd (f (as_used known s' s a))
  refuses_once (refused_last l u s a f) (refused_1 g) = absurd (g l)
  refuses_once (refused_last l u s a f) (refused_2 l' g) = absurd (g u s)
  refuses_once (refused_last l u s a f) (refused_3 l' u' s' g) = absurd (g (as_used known s s' a))
  refuses_once (refused_last l u s a f) (refused_last l' u' s' a' g) = refl

module _ (st : Store) (index : List ℕ) where
  -- what the check says by its number
  pub passed_check_sound : {k u e : ℕ} → Checks st index k u e → k ≡ 0 → Allowed st index × SoundLent st index u
  passed_check_sound (checked_1 f) q = absurd (omega arith)
  passed_check_sound (checked_2 a f) q = absurd (omega arith)
  passed_check_sound (checked_0 a u s) q = (a, s)

  -- and what it says by what `judge` finds
  pub checks_it : (o : Option Used) (r : Result Used Refusal) → r ≡ ok_or o NotSound → Allowed st index → Judges st index (nodes_found o) (edges_found o) (found o) → Checks st index (number_in r) (nodes_in r) (edges_in r)
  checks_it o r e a j = subst (λ (x : Result Used Refusal). Checks st index (number_in x) (nodes_in x) (edges_in x)) (sym e) (go o j)
    where
      go : (o : Option Used) → Judges st index (nodes_found o) (edges_found o) (found o) → Checks st index (number_in (ok_or o NotSound)) (nodes_in (ok_or o NotSound)) (edges_in (ok_or o NotSound))
      go None j = checked_2 a (judged_no j refl)
      go (Some u) j = some u.nodes u.edges j
        where
          some : (n e : ℕ) → Judges st index n e true → Checks st index 0 n e
          some n e (sound s q) = rw q (checked_0 a n s)

  -- the last answer, from what the code reads
  pub hears_it : {u : ℕ} (places : List ℤ) (bools id : ℕ) → Allowed st index × (length places ≡ first_boolean) → SoundLent st index u → KnownTo u id → Places places
      → (b : Bool) → b ≡ value (held st u) (spots places bools) id → Hears st index places bools id 0 b
  hears_it {u} places bools id a s k ok b e = rw (e, spots_reading places bools ok) (reply_0 a u s k ok)

  pub freshens_it : {n c i : List ℕ} {k : List ℤ} → Allowed st index → n ≡ replicate (length st.nodes) 0 → c ≡ replicate (length st.children) 0 → k ≡ replicate (length st.cuts) (pos 0)
      → i ≡ replicate (length index) 0 → Freshens st index 0 (store n c k) i
  freshens_it a p q r s = rw (p, q, r, s) (freshened_0 a)

  -- any two outcomes that a contract permits are the same
  pub checks_once : {k k' u u' e e' : ℕ} → Checks st index k u e → Checks st index k' u' e' → (k ≡ k') × (u ≡ u') × (e ≡ e')
  checks_once (checked_1 f) (checked_1 g) = (refl, refl, refl)
  checks_once (checked_1 f) (checked_2 a g) = absurd (f a)
  checks_once (checked_1 f) (checked_0 a u s) = absurd (f a)
  checks_once (checked_2 a f) (checked_1 g) = absurd (g a)
  checks_once (checked_2 a f) (checked_2 b g) = (refl, refl, refl)
  checks_once (checked_2 a f) (checked_0 b u s) = absurd (f u s)
  checks_once (checked_0 a u s) (checked_1 g) = absurd (g a)
  checks_once (checked_0 a u s) (checked_2 b g) = absurd (g u s)
  checks_once (checked_0 a u s) (checked_0 b v r) = let q = sound_once st index u v s r in (refl, q, ap (start st.nodes) q)

  pub freshens_once : {k k' : ℕ} {after after' : Store} {i i' : List ℕ} → Freshens st index k after i → Freshens st index k' after' i'
      → (k ≡ k') × (after ≡ after') × (i ≡ i')
  freshens_once (freshened_1 f) (freshened_1 g) = (refl, refl, refl)
  freshens_once (freshened_1 f) (freshened_0 a) = absurd (f a)
  freshens_once (freshened_0 a) (freshened_1 g) = absurd (g a)
  freshens_once (freshened_0 a) (freshened_0 b) = (refl, refl, refl)

  module _ (lent : Type 0) (known : ℕ → Type 0) (right : Type 0) (answer : ℕ → right → Bool) (same : (u : ℕ) (p p' : right) → answer u p ≡ answer u p') where
    abbrev Out : ℕ → Bool → Type 0
    Out k b = Replies lent known right answer st index k b

    pub replies_once : {k k' : ℕ} {b b' : Bool} → Out k b → Out k' b' → (k ≡ k') × (b ≡ b')
    replies_once (reply_no f) (reply_no g) = (refuses_once f g, refl)
    replies_once (reply_no f) (reply_0 l u s k p) = absurd (not_refused l s k p f)
    replies_once (reply_0 l u s k p) (reply_no g) = absurd (not_refused l s k p g)
    replies_once (reply_0 l u s k p) (reply_0 l' u' s' k' p') = (refl, same u p p' ∙ ap (λ (m : ℕ). answer m p') (sound_once st index u u' s s'))

  -- a reading's answer does not turn on how its places are shown to be places
  pub hears_once : (places : List ℤ) (bools id : ℕ) {k k' : ℕ} {b b' : Bool} → Hears st index places bools id k b → Hears st index places bools id k' b' → (k ≡ k') × (b ≡ b')
  hears_once places bools id = replies_once _ _ _ _ (λ u p p'. refl)
