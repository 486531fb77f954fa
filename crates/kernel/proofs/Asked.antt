-- What is asked of each call: one function of readings, and its operation makes it. Assumes nothing.
use mathlib.Core.Path.{◌≡◌, refl, sym, ◌∙◌}
use mathlib.Core.Bool.{Bool, false, ◌&&◌, ◌||◌, false≢true}
use mathlib.Core.Logic.{◌⊎◌, inl, inr, ⊎_elim}
use Prim.Native.Nat.{ℕ, ◌≤◌, ◌<◌}
use native.Mathlib.Omega.{arith}
use lib.ListN.{length}
use lib.Signed.{le_z_yes}
use Rattle.ranges.specs.Line.{lowest}
use Rattle.ranges.specs.Bounding.{inside, Empty}
use Rattle.ranges.specs.Comparing.{compares}
use Rattle.ranges.specs.declared.bounds.Bound.{Bound}
use Rattle.diagram.specs.Table.{first_boolean, Table, same}
use Rattle.diagram.specs.Sound.{Known, Sound}
use Rattle.diagram.specs.Reading.{Reading, says, everywhere, switched}
use Rattle.algebra.specs.Changing.{restrict, narrow}
use Rattle.algebra.specs.Answering.{Answers}
use Rattle.algebra.specs.Narrowing.{AtNearest, Steady, EmptyAnswer}
use Rattle.algebra.proofs.Emptied.{Changing, not_steady, steady_or_changing}
use Rattle.algebra.proofs.Promises.{from_range_answers, comparison_answers, from_bool_answers, and_answers, or_answers, restrict_answers, restrict_range, empty_or_nearest, nearest_says_once, narrow_answers, narrow_empty_answers, widen_answers}
use Rattle.table.proofs.Laws.{lt_or_le}
use Rattle.kernel.specs.Calls.{Call, range_of, comparison_of, boolean_of, both_of, either_of, restriction_of, narrowing_of, widening_of, row}

-- an answer that says the same is an answer
answers_as : {t : Table} {m m' : Reading → Bool} {out : Table × ℕ} → Answers t m' out → ((ρ : Reading) → m ρ ≡ m' ρ) → Answers t m out
answers_as x e = record {
  right = record { sound = x.right.sound; continues = x.right.continues; known = x.right.known; means = λ ρ. x.right.means ρ ∙ sym (e ρ) };
  reached = x.reached;
}

-- Narrowing by empty bounds has one answer: under each reading the id's answer either is steady or still changes.
module _ (t : Table) (z : Sound t) (v : ℕ) (hv : v < first_boolean) (id : ℕ) (k : Known t id) where
  empty_answer_exists : (m : Reading → Bool) × EmptyAnswer t v id m
  empty_answer_exists = (λ ρ. one ρ (steady_or_changing t z v hv id k ρ), λ ρ. as_asked ρ (steady_or_changing t z v hv id k ρ))
    where
      one : (ρ : Reading) → Steady t v ρ id ⊎ Changing t v ρ id → Bool
      one ρ (inl s) = says t ρ id
      one ρ (inr c) = false

      as_asked : (ρ : Reading) (d : Steady t v ρ id ⊎ Changing t v ρ id) → ((Steady t v ρ id → ⊥) → one ρ d ≡ false) × (Steady t v ρ id → one ρ d ≡ says t ρ id)
      as_asked ρ (inl s) = (λ f. absurd (f s), λ x. refl)
      as_asked ρ (inr c) = (λ f. refl, λ s. absurd (not_steady t v ρ id c s))

  empty_answer_once : (m m' : Reading → Bool) → EmptyAnswer t v id m → EmptyAnswer t v id m' → (ρ : Reading) → m ρ ≡ m' ρ
  empty_answer_once m m' h h' ρ = ⊎_elim (λ s. (h ρ).1 s ∙ sym ((h' ρ).1 s)) (λ c. let f = not_steady t v ρ id c in (h ρ).0 f ∙ sym ((h' ρ).0 f)) (steady_or_changing t z v hv id k ρ)

-- no place of a reading is inside empty bounds
never_nearest : (v : ℕ) → v < first_boolean → (lower upper : Bound) → Empty lower upper → (ρ σ : Reading) → AtNearest v lower upper ρ σ → ⊥
never_nearest v hv lower upper i ρ σ n = false≢true (sym (i (σ.place v) (σ.within v hv)) ∙ n.1.within)

module _ (t : Table) (z : Sound t) where
  -- Each operation makes what is asked,
  pub makes_what_is_asked : (q : Call) → (row q).keys → (row q).known (length t) → (row q).kind → (m : Reading → Bool) → (row q).asks t m → Answers t m ((row q).make t)
  makes_what_is_asked (range_of v lower upper) keys a h m e = answers_as (from_range_answers t z v h lower upper keys.0 keys.1) e
  makes_what_is_asked (comparison_of v op key) keys a h m e = answers_as (comparison_answers t z v h op key keys) e
  makes_what_is_asked (boolean_of v) keys a h m e = answers_as (from_bool_answers t z v h.0 h.1) e
  makes_what_is_asked (both_of x y) keys a h m e = answers_as (and_answers t z x y a.0 a.1) e
  makes_what_is_asked (either_of x y) keys a h m e = answers_as (or_answers t z x y a.0 a.1) e
  makes_what_is_asked (restriction_of id v value) keys a h m e = ⊎_elim range boolean (lt_or_le v first_boolean)
    where
      boolean : first_boolean ≤ v → Answers t m (restrict t v value id)
      boolean l = answers_as (restrict_answers t z id a v l h value) (e.0 l)

      range : v < first_boolean → Answers t m (restrict t v value id)
      range l = rw (restrict_range t z id a v l value) (record { right = record { sound = z; continues = same; known = a; means = λ ρ. sym (e.1 l ρ) }; reached = λ r p n. absurd (omega arith) })
  makes_what_is_asked (narrowing_of id v lower upper) keys a h m e = ⊎_elim nowhere somewhere (empty_or_nearest v h lower upper keys.0 keys.1)
    where
      nowhere : Empty lower upper → Answers t m (narrow t v lower upper id)
      nowhere i = narrow_empty_answers t z id a v h lower upper keys.0 keys.1 i m (e.1 i)

      somewhere : ((ρ : Reading) → (σ : Reading) × AtNearest v lower upper ρ σ) → Answers t m (narrow t v lower upper id)
      somewhere f = answers_as (narrow_answers t z id a v h lower upper keys.0 keys.1 (λ ρ. (f ρ).0) (λ ρ. (f ρ).1)) (λ ρ. e.0 ρ (f ρ).0 (f ρ).1)
  makes_what_is_asked (widening_of id v lower upper) keys a h m e = answers_as (widen_answers t z id a v h lower upper keys.0 keys.1) e

  -- something is asked,
  pub something_is_asked : (q : Call) → (row q).keys → (row q).known (length t) → (row q).kind → (m : Reading → Bool) × (row q).asks t m
  something_is_asked (range_of v lower upper) keys a h = (λ ρ. inside lower upper (ρ.place v), λ ρ. refl)
  something_is_asked (comparison_of v op key) keys a h = (λ ρ. compares op key (ρ.place v), λ ρ. refl)
  something_is_asked (boolean_of v) keys a h = (λ ρ. ρ.holds v, λ ρ. refl)
  something_is_asked (both_of x y) keys a h = (λ ρ. says t ρ x && says t ρ y, λ ρ. refl)
  something_is_asked (either_of x y) keys a h = (λ ρ. says t ρ x || says t ρ y, λ ρ. refl)
  something_is_asked (restriction_of id v value) keys a h = ⊎_elim range boolean (lt_or_le v first_boolean)
    where
      boolean : first_boolean ≤ v → (m : Reading → Bool) × (row (restriction_of id v value)).asks t m
      boolean l = (λ ρ. says t (switched ρ v value) id, (λ k ρ. refl, λ k. absurd (omega arith)))

      range : v < first_boolean → (m : Reading → Bool) × (row (restriction_of id v value)).asks t m
      range l = (λ ρ. says t ρ id, (λ k. absurd (omega arith), λ k ρ. refl))
  something_is_asked (narrowing_of id v lower upper) keys a h = ⊎_elim nowhere somewhere (empty_or_nearest v h lower upper keys.0 keys.1)
    where
      nowhere : Empty lower upper → (m : Reading → Bool) × (row (narrowing_of id v lower upper)).asks t m
      nowhere i = let x = empty_answer_exists t z v h id a in (x.0, (λ ρ σ n. absurd (never_nearest v h lower upper i ρ σ n), λ f. x.1))

      somewhere : ((ρ : Reading) → (σ : Reading) × AtNearest v lower upper ρ σ) → (m : Reading → Bool) × (row (narrowing_of id v lower upper)).asks t m
      somewhere f = (
        λ ρ. says t (f ρ).0 id,
        (
          λ ρ σ n. nearest_says_once v h lower upper keys.0 keys.1 t id ρ (f ρ).0 σ (f ρ).1 n,
          λ i. absurd (let ρ = everywhere lowest (le_z_yes tt, le_z_yes tt) in never_nearest v h lower upper i ρ (f ρ).0 (f ρ).1),
        ),
      )
  something_is_asked (widening_of id v lower upper) keys a h = (λ ρ. says t ρ id && inside lower upper (ρ.place v), λ ρ. refl)

  -- and but one thing.
  pub one_thing_is_asked : (q : Call) → (row q).keys → (row q).known (length t) → (row q).kind → (m m' : Reading → Bool) → (row q).asks t m → (row q).asks t m' → (ρ : Reading) → m ρ ≡ m' ρ
  one_thing_is_asked (range_of v lower upper) keys a h m m' e f ρ = e ρ ∙ sym (f ρ)
  one_thing_is_asked (comparison_of v op key) keys a h m m' e f ρ = e ρ ∙ sym (f ρ)
  one_thing_is_asked (boolean_of v) keys a h m m' e f ρ = e ρ ∙ sym (f ρ)
  one_thing_is_asked (both_of x y) keys a h m m' e f ρ = e ρ ∙ sym (f ρ)
  one_thing_is_asked (either_of x y) keys a h m m' e f ρ = e ρ ∙ sym (f ρ)
  one_thing_is_asked (restriction_of id v value) keys a h m m' e f ρ = ⊎_elim (λ l. e.1 l ρ ∙ sym (f.1 l ρ)) (λ l. e.0 l ρ ∙ sym (f.0 l ρ)) (lt_or_le v first_boolean)
  one_thing_is_asked (narrowing_of id v lower upper) keys a h m m' e f ρ =
      ⊎_elim (λ i. empty_answer_once t z v h id a m m' (e.1 i) (f.1 i) ρ) (λ n. let x = n ρ in e.0 ρ x.0 x.1 ∙ sym (f.0 ρ x.0 x.1)) (empty_or_nearest v h lower upper keys.0 keys.1)
  one_thing_is_asked (widening_of id v lower upper) keys a h m m' e f ρ = e ρ ∙ sym (f ρ)
