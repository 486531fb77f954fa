-- What the proofs of several functions cite.
-- Assumes nothing.
use mathlib.Core.Path.{◌≡◌, refl, sym, ◌∙◌, ap, subst}
use mathlib.Core.Bool.{Bool, true, false}
use mathlib.Core.List.{List}
use mathlib.Core.Logic.{◌⊎◌, inl, inr, ⊎_elim}
use Prim.Native.Nat.{ℕ, zero, suc, ◌+◌, ◌-◌, ◌*◌, ◌/◌, ◌≤◌, ◌<◌}
use native.Mathlib.Omega.{arith}
use native.Mathlib.Nat.{eq-or-lt_of_le, mul-lt-mul_of_pos_right}
use lib.Bits.{bit_or, or_add_and, and_le_l, and_le_r}
use lib.ListN.{get_or}
use lib.IntN.{ℤ, pos}
use mir.Syntax.{w64}
use mir.Val.{SFits, of_z, to_z}
use mir.ValLaws.{to_z-of_z}
use native.Mathlib.Numerals.{add-one}
use Rattle.std.specs.Prelude.{Decides}
use Rattle.table.specs.Layout.{cut_position, cut_at, kid_at, count_at, first_at, start, Store}
use Rattle.table.specs.Indexed.{hash_to, mix}
use Rattle.table.specs.Lent.{SameRun, KidsStand, Blank, Rules, SoundLent}
use Rattle.chains.specs.Local.{some, tally}
use Rattle.table.specs.Checking.{below, Climbs, Judges, sound, unsound}

pub not_false_and_true : {b : Bool} → b ≡ false → b ≡ true → ⊥
not_false_and_true p q = let z : ◌≡◌ {A = ℕ} 0 1 = cc in omega arith

-- a test's answer, and what it says
pub holds : {P : Type 0} → P → Decides true P
holds p = (λ e. p, λ q. refl)

pub fails : {P : Type 0} → (P → ⊥) → Decides false P
fails n = (λ e. absurd (not_false_and_true refl e), λ q. absurd (n q))

pub decided_true : {P : Type 0} {b : Bool} → Decides b P → b ≡ true → P
decided_true d = d.0

pub decided_false : {P : Type 0} {b : Bool} → Decides b P → b ≡ false → P → ⊥
decided_false d e q = not_false_and_true e (d.1 q)

-- an answer handed on
pub to : {P Q : Type 0} {b : Bool} → Decides b P → (P → Q) → (Q → P) → Decides b Q
to d f g = (λ e. f (d.0 e), λ q. d.1 (g q))

pub lt_or_le : (a b : ℕ) → (a < b) ⊎ (b ≤ a)
lt_or_le a zero = inr (omega arith)
lt_or_le zero (suc b) = inl (omega arith)
lt_or_le (suc a) (suc b) = ⊎_elim (λ h. inl (omega arith)) (λ h. inr (omega arith)) (lt_or_le a b)

-- the three ways that two numbers stand
pub data Order (a b : ℕ) : Type 0 where
  less : a < b → Order a b
  equal : a ≡ b → Order a b
  more : b < a → Order a b

pub lt_eq_or_gt : (a b : ℕ) → Order a b
lt_eq_or_gt a b = ⊎_elim (λ l. less l) (λ g. ⊎_elim (λ e. equal (sym e)) (λ m. more m) (eq-or-lt_of_le g)) (lt_or_le a b)

-- a word that is not 0, and the number of the node that it names
pub one_more : {w x : ℕ} → x ≡ w → (x ≡ 0 → ⊥) → w ≡ suc (x - 1)
one_more {w} {x} e f = go x e f
  where
    go : (x : ℕ) → x ≡ w → (x ≡ 0 → ⊥) → w ≡ suc (x - 1)
    go zero e f = absurd (f refl)
    go (suc x) e f = omega arith

pub one_less : {x u : ℕ} → (x ≡ 0 → ⊥) → x ≤ u → x - 1 < u
one_less {x} {u} f l = go x f l
  where
    go : (x : ℕ) → (x ≡ 0 → ⊥) → x ≤ u → x - 1 < u
    go zero f l = absurd (f refl)
    go (suc x) f l = omega arith

-- Signed numbers, by their bits.
pub same_bits : {y z : ℤ} → SFits w64 y → SFits w64 z → of_z w64 y ≡ of_z w64 z → y ≡ z
same_bits {y} {z} f g e = sym (to_z-of_z w64 y f) ∙ (ap (to_z w64) e ∙ to_z-of_z w64 z g)

pub zero_fits : SFits w64 (pos 0)
zero_fits = record { sfits = omega arith }

pub get_d_at_equal : (xs : List ℕ) (a b : ℕ) → a ≡ b → get_or xs a 0 ≡ get_or xs b 0
get_d_at_equal xs a b e = ap (λ (i : ℕ). get_or xs i 0) e

-- the next step of a definition that recurses on suc
pub below_next : (cuts : List ℤ) (e j : ℕ) → below cuts e (j + 1) ≡ cut_position (cut_at cuts (e + j))
below_next cuts e j = ap (below cuts e) (add-one j)

pub hash_next : (children : List ℕ) (cuts : List ℤ) (v e j : ℕ) → hash_to children cuts v e (j + 1) ≡ mix (hash_to children cuts v e j) (kid_at children (e + j)) (cut_position (cut_at cuts (e + j)))
unfolding hash_to
hash_next children cuts v e j = ap (hash_to children cuts v e) (add-one j)

pub hash_none : (children : List ℕ) (cuts : List ℤ) (v e : ℕ) → v < 4294967296 → hash_to children cuts v e 0 ≡ v
unfolding hash_to
hash_none children cuts v e h = omega arith

pub hash_lt : (children : List ℕ) (cuts : List ℤ) (v e j : ℕ) → hash_to children cuts v e j < 4294967296
unfolding hash_to
hash_lt children cuts v e zero = omega arith
hash_lt children cuts v e (suc j) = omega arith

pub scaled_lt : (h r : ℕ) → h < 4294967296 → 0 < r → h * r / 4294967296 < r
scaled_lt h r a b = let x : h * r < 4294967296 * r = mul-lt-mul_of_pos_right a b in omega arith

pub mix_at_equal : {h c k h' c' k' : ℕ} → h ≡ h' → c ≡ c' → k ≡ k' → mix h c k ≡ mix h' c' k'
mix_at_equal p q r = λ i. mix (p i) (q i) (r i)

pub start_next : (nodes : List ℕ) (n : ℕ) → start nodes (n + 1) ≡ start nodes n + count_at nodes n
unfolding start
start_next nodes n = ap (start nodes) (add-one n)

pub start_none : (nodes : List ℕ) → start nodes 0 ≡ 0
unfolding start
start_none nodes = refl

-- edges of earlier nodes stand before those of later ones
pub start_up : (nodes : List ℕ) (n u : ℕ) → n ≤ u → start nodes n ≤ start nodes u
start_up nodes n zero h = let a : n ≡ 0 = omega arith in omega (arith, ap (start nodes) a)
start_up nodes n (suc u) h = go (eq-or-lt_of_le h) (λ l. start_up nodes n u l)
  where
    go : (n ≡ suc u) ⊎ (n < suc u) → (n ≤ u → start nodes n ≤ start nodes u) → start nodes n ≤ start nodes (suc u)
    go (inl q) rec = omega (arith, ap (start nodes) q)
    go (inr l) rec = let a : u + 1 ≡ suc u = omega arith in omega (arith, rec (omega arith), start_next nodes u, ap (start nodes) a)

pub edges_before : {st : Store} {n u : ℕ} → n < u → Rules st n → first_at st.nodes n + count_at st.nodes n ≤ start st.nodes u
edges_before {st} {n = n} {u = u} l r = let a : n + 1 ≤ u = omega arith in omega (arith, r.packed, start_next st.nodes n, start_up st.nodes (n + 1) u a)

-- The same fact at equal numbers.
pub same_run_at_equal : {children : List ℕ} {cuts : List ℤ} {a b n a' b' n' : ℕ} → a ≡ a' → b ≡ b' → n ≡ n' → SameRun children cuts a b n → SameRun children cuts a' b' n'
same_run_at_equal {children} {cuts} {a} {b} {n} {a'} {b'} {n'} p q r s =
    subst (λ (i : ℕ). SameRun children cuts a' b' i) r (subst (λ (i : ℕ). SameRun children cuts a' i n) q (subst (λ (i : ℕ). SameRun children cuts i b n) p s))

pub kids_stand_at_equal : {nodes children : List ℕ} {m v e n v' e' n' : ℕ} → v ≡ v' → e ≡ e' → n ≡ n' → KidsStand nodes children m v e n → KidsStand nodes children m v' e' n'
kids_stand_at_equal {nodes} {children} {m} {v} {e} {n} {v'} {e'} {n'} p q r s =
    subst (λ (i : ℕ). KidsStand nodes children m v' e' i) r (subst (λ (i : ℕ). KidsStand nodes children m v' i n) q (subst (λ (i : ℕ). KidsStand nodes children m i e n) p s))

pub climbs_at_equal : {cuts : List ℤ} {e n e' n' : ℕ} → e ≡ e' → n ≡ n' → Climbs cuts e n → Climbs cuts e' n'
climbs_at_equal {cuts} {e} {n} {e'} {n'} q r s = subst (λ (i : ℕ). Climbs cuts e' i) r (subst (λ (i : ℕ). Climbs cuts i n) q s)

pub blank_at_equal : {cuts : List ℤ} {e e' : ℕ} → e ≡ e' → Blank cuts e → Blank cuts e'
blank_at_equal {cuts} q s = subst (λ (i : ℕ). Blank cuts i) q s

pub tally_next : (F : ℕ → ℕ) (n : ℕ) → tally F (n + 1) ≡ tally F n + some (F n)
unfolding tally
tally_next F n = ap (tally F) (add-one n)

pub tally_none : (F : ℕ → ℕ) → tally F 0 ≡ 0
unfolding tally
tally_none F = refl

-- what a check that answers no has found
pub judged_no : {st : Store} {index : List ℕ} {u e : ℕ} {b : Bool} → Judges st index u e b → b ≡ false → (u : ℕ) → SoundLent st index u → ⊥
judged_no (sound s q) e = absurd (not_false_and_true e refl)
judged_no (unsound x) e = x

-- words gathered by `or` are zero when each is
pub or_zero : (a b : ℕ) → bit_or a b ≡ 0 → (a ≡ 0) × (b ≡ 0)
or_zero a b e = (omega (arith, or_add_and a b, and_le_r a b), omega (arith, or_add_and a b, and_le_l a b))

-- and so are cuts, by their bits
pub no_bits : {z : ℤ} → SFits w64 z → of_z w64 z ≡ 0 → z ≡ pos 0
no_bits f e = same_bits f zero_fits e

pub zero_or : (a b : ℕ) → a ≡ 0 → b ≡ 0 → bit_or a b ≡ 0
zero_or a b p q = omega (arith, or_add_and a b)
