-- Nodes that a strict order tells apart have an index: its words can be found, and written in one row. Assumes nothing.
use mathlib.Core.Path.{◌≡◌, refl, sym, ◌∙◌, ap, subst}
use mathlib.Core.Bool.{Bool, true, false}
use mathlib.Core.List.{List, [], ◌∷◌, ◌++◌}
use mathlib.Core.Logic.{◌⊎◌, inl, inr, ⊎_elim}
use Prim.Native.Nat.{ℕ, zero, suc, ◌+◌, ◌*◌, ◌≤◌, ◌<◌}
use native.Mathlib.Omega.{arith}
use native.Mathlib.Nat.{eq-or-lt_of_le}
use native.Mathlib.Decide.{ℕ_discrete}
use lib.ListN.{length, length-append, get_or-append}
use lib.Seq.{get_or-append-add}
use Rattle.chains.specs.Before.{Before, back, Strict, Stand, ahead, same, behind}
use Rattle.chains.specs.Sorted.{FirstOf, Beyond}
use Rattle.chains.specs.Row.{words, Indexed}
use Rattle.chains.specs.Lexical.{less}
use Rattle.chains.proofs.Laws.{clash, split}
use Rattle.chains.proofs.Firsts.{strict_back, first_used, first_keeps, first_new}
use Rattle.chains.proofs.Lexical.{by, less_smaller, less_equal}

-- Two lists are the same, or one stands before the other;
data Compared (xs ys : List ℕ) : Type 0 where
  lower : less xs ys ≡ true → Compared xs ys
  level : xs ≡ ys → Compared xs ys
  higher : less ys xs ≡ true → Compared xs ys

less_compares : (xs ys : List ℕ) → Compared xs ys
unfolding less
less_compares [] [] = level refl
less_compares [] (y ∷ ys) = lower refl
less_compares (x ∷ xs) [] = higher refl
less_compares (x ∷ xs) (y ∷ ys) = ⊎_elim (λ l. lower (less_smaller x y xs ys l)) (λ g. ⊎_elim (λ e. rest (sym e) (less_compares xs ys)) (λ l. higher (less_smaller y x ys xs l)) (eq-or-lt_of_le g)) (split x y)
  where
    rest : x ≡ y → Compared xs ys → Compared (x ∷ xs) (y ∷ ys)
    rest e (lower h) = lower (less_equal x y xs ys e ∙ h)
    rest e (level h) = level (cc)
    rest e (higher h) = higher (less_equal y x ys xs (sym e) ∙ h)

-- so nodes of different content stand in an order.
pub by_stand : (content : ℕ → List ℕ) (m n : ℕ) → (content m ≡ content n → m ≡ n) → Stand (by content) m n
by_stand content m n tells = go (less_compares (content m) (content n))
  where
    go : Compared (content m) (content n) → Stand (by content) m n
    go (lower h) = ahead h
    go (level h) = same (tells h)
    go (higher h) = behind h

-- What tells any two of the nodes apart.
abbrev pub Tells : (ℕ → ℕ → Bool) → ℕ → Type 0
Tells before u = (m n : ℕ) → m < u → n < u → Stand before m n

tells_back : {before : ℕ → ℕ → Bool} {u : ℕ} → Tells before u → Tells (back before) u
tells_back {before} stand m n k l = go (stand m n k l)
  where
    go : Stand before m n → Stand (back before) m n
    go (ahead a) = behind a
    go (same e) = same e
    go (behind a) = ahead a

-- Of the nodes that a test holds of there is a first: look at one after the other, and keep the one that stands before the others.
first_exists : {before : ℕ → ℕ → Bool} {u : ℕ} {P : ℕ → Type 0} → Strict before → Tells before u → ((k : ℕ) → Dec (P k)) → (x : ℕ) × FirstOf before u P x
first_exists {before} {u} {P} s stand test = looked u (omega arith)
  where
    one_more : (n : ℕ) → n < u → (x : ℕ) → FirstOf before n P x → Dec (P n) → (y : ℕ) × FirstOf before (suc n) P y
    one_more n l x f (no h) = (x, first_keeps (λ p. absurd (h p)) f)
    one_more n l zero f (yes p) = (suc n, first_new p (λ k i q. absurd (f.none refl k i q)))
    one_more n l (suc m) f (yes p) = beside (stand m n (omega (arith, first_used f m refl)) l)
      where
        beside : Stand before m n → (y : ℕ) × FirstOf before (suc n) P y
        beside (ahead a) = (suc m, first_keeps (λ q. (m, refl, a)) f)
        beside (same e) = absurd (omega (arith, first_used f m refl))
        beside (behind a) = (suc n, first_new p (λ k i q. ⊎_elim (λ e. subst (λ (j : ℕ). Before before n j) (sym e) a) (λ b. s.transitive n m k a b) (f.least m k refl i q)))

    looked : (n : ℕ) → n ≤ u → (x : ℕ) × FirstOf before n P x
    looked zero h = (0, record { within = omega arith; own = λ m e. absurd (omega arith); none = λ e k l p. omega arith; least = λ m k e l p. absurd (omega arith) })
    looked (suc n) h = let f = looked n (omega arith) in one_more n (omega arith) f.0 f.1 (test n)

-- The word of node n, used or not.
abbrev Leads : (ℕ → ℕ → Bool) → (ℕ → ℕ) → ℕ → ℕ → ℕ → Type 0
Leads before bucket u n x = (n < u → FirstOf before u (Beyond before bucket n) x) × (u ≤ n → x ≡ 0)

word_exists : {before : ℕ → ℕ → Bool} {u : ℕ} → Strict before → Tells before u → (bucket : ℕ → ℕ) (n : ℕ) → (x : ℕ) × Leads before bucket u n x
word_exists {before} {u} s stand bucket n = go (split n u)
  where
    test : (k : ℕ) → Dec (Beyond before bucket n k)
    test k = both (ℕ_discrete (bucket k) (bucket n)) (before n k) refl
      where
        both : Dec (bucket k ≡ bucket n) → (b : Bool) → before n k ≡ b → Dec (Beyond before bucket n k)
        both (no h) b e = no (λ p. h p.0)
        both (yes h) true e = yes (h, e)
        both (yes h) false e = no (λ p. clash e p.1)

    go : (n < u) ⊎ (u ≤ n) → (x : ℕ) × Leads before bucket u n x
    go (inl l) = let f = first_exists s stand test in (f.0, (λ k. f.1, λ g. absurd (omega arith)))
    go (inr g) = (0, (λ l. absurd (omega arith), λ k. refl))

-- The first n words of f.
unfoldable pub listed : (ℕ → ℕ) → ℕ → List ℕ
listed f zero = []
listed f (suc n) = f 0 ∷ listed (λ i. f (suc i)) n

pub listed_length : (f : ℕ → ℕ) (n : ℕ) → length (listed f n) ≡ n
unfolding listed
listed_length f zero = refl
listed_length f (suc n) = ap suc (listed_length (λ i. f (suc i)) n)

listed_word : (f : ℕ → ℕ) (n i : ℕ) → i < n → words (listed f n) i ≡ f i
unfolding listed
listed_word f zero i l = absurd (omega arith)
listed_word f (suc n) zero l = refl
listed_word f (suc n) (suc i) l = listed_word (λ i. f (suc i)) n i (omega arith)

-- Words with more behind them, and the words behind.
module _ (f : ℕ → ℕ) (r : ℕ) (more : List ℕ) where
  pub listed_then : (i : ℕ) → i < r → words (listed f r ++ more) i ≡ f i
  listed_then i l = get_or-append (listed f r) more 0 i (omega (arith, listed_length f r)) ∙ listed_word f r i l

  pub listed_past : (i j : ℕ) → j ≡ r + i → words (listed f r ++ more) j ≡ words more i
  listed_past i j e = let a : j ≡ length (listed f r) + i = omega (arith, listed_length f r) in ap (words (listed f r ++ more)) a ∙ get_or-append-add (listed f r) more i 0

-- There is a row that is the index, with any words behind it.
pub row_exists : {before : ℕ → ℕ → Bool} (bucket : ℕ → ℕ) {u : ℕ} (r : ℕ) → Strict before → Tells before u → u ≤ r → (rest : List ℕ)
    → (index : List ℕ) × (length index ≡ r * 3 + length rest) × Indexed before bucket u r (words index) × ((n : ℕ) → words index (r * 3 + n) ≡ words rest n)
row_exists {before} bucket {u} r s stand fits rest = (index, long, chained, behind_it)
  where
    first : (b : ℕ) → (x : ℕ) × FirstOf before u (λ (n : ℕ). bucket n ≡ b) x
    first b = first_exists s stand (λ k. ℕ_discrete (bucket k) b)

    next : (n : ℕ) → (x : ℕ) × Leads before bucket u n x
    next = word_exists s stand bucket

    prev : (n : ℕ) → (x : ℕ) × Leads (back before) bucket u n x
    prev = word_exists (strict_back s) (tells_back stand) bucket

    prevs : List ℕ
    prevs = listed (λ n. (prev n).0) r ++ rest

    nexts : List ℕ
    nexts = listed (λ n. (next n).0) r ++ prevs

    index : List ℕ
    index = listed (λ b. (first b).0) r ++ nexts

    long : length index ≡ r * 3 + length rest
    long = omega (
      arith,
      length-append (listed (λ b. (first b).0) r) nexts,
      length-append (listed (λ n. (next n).0) r) prevs,
      length-append (listed (λ n. (prev n).0) r) rest,
      listed_length (λ b. (first b).0) r,
      listed_length (λ n. (next n).0) r,
      listed_length (λ n. (prev n).0) r,
    )

    first_word : (b : ℕ) → b < r → words index b ≡ (first b).0
    first_word b l = listed_then (λ b. (first b).0) r nexts b l

    past_firsts : (i j : ℕ) → j ≡ r + i → words index j ≡ words nexts i
    past_firsts = listed_past (λ b. (first b).0) r nexts

    past_nexts : (i j : ℕ) → j ≡ r + i → words nexts j ≡ words prevs i
    past_nexts = listed_past (λ n. (next n).0) r prevs

    next_word : (n : ℕ) → n < r → words index (r + n) ≡ (next n).0
    next_word n l = past_firsts n (r + n) refl ∙ listed_then (λ n. (next n).0) r prevs n l

    prev_word : (n : ℕ) → n < r → words index (r * 2 + n) ≡ (prev n).0
    prev_word n l = past_firsts (r + n) (r * 2 + n) (omega arith) ∙ (past_nexts n (r + n) refl ∙ listed_then (λ n. (prev n).0) r rest n l)

    behind_it : (n : ℕ) → words index (r * 3 + n) ≡ words rest n
    behind_it n = past_firsts (r * 2 + n) (r * 3 + n) (omega arith) ∙ (past_nexts (r + n) (r * 2 + n) (omega arith) ∙ listed_past (λ n. (prev n).0) r rest n (r + n) refl)

    chained : Indexed before bucket u r (words index)
    chained = record {
      firsts = λ b l. subst (FirstOf before u (λ (n : ℕ). bucket n ≡ b)) (sym (first_word b l)) (first b).1;
      nexts = λ n l. subst (FirstOf before u (Beyond before bucket n)) (sym (next_word n (omega arith))) ((next n).1.0 l);
      prevs = λ n l. subst (FirstOf (back before) u (Beyond (back before) bucket n)) (sym (prev_word n (omega arith))) ((prev n).1.0 l);
      no_next = λ n g l. next_word n l ∙ (next n).1.1 g;
      no_prev = λ n g l. prev_word n l ∙ (prev n).1.1 g;
    }
