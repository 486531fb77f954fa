-- The starred cases. Document 01, "Ids from a fresh table": x is variable 0, a is 32. Assumes nothing.
use Rattle.std.specs.Prelude.{◌≡◌, Bool, true, false, List, [], ◌∷◌, ℕ, pos}
use Rattle.std.specs.Int.Signed.{le_z_yes}
use Rattle.ids.specs.Id.{FALSE}
use Rattle.ranges.specs.declared.bounds.Bound.TheVariants.{Excludes}
use Rattle.ranges.specs.declared.bounds.Comparison.TheVariants.{Equal, NotEqual, LessThan, LessEqual, GreaterEqual}
use Rattle.diagram.specs.Table.{Table}
use Rattle.diagram.specs.Reading.{says, everywhere}
use Rattle.algebra.specs.Conditions.{from_range, comparison, from_bool}
use Rattle.algebra.specs.Conjunction.{and, or}
use Rattle.algebra.specs.Disjointness.{is_disjoint}

abbrev pub x : ℕ
x = 0

abbrev pub a : ℕ
a = 32

-- A case: a call that gives an id, and hands its table on to the next; or a question to the table, with its answer.
pub data Case : Type 0 where
  gives : (Table → Table × ℕ) → ℕ → Case
  asks : (Table → Bool) → Bool → Case

-- All cases of a list come out so, one after the other.
abbrev pub Hold : Table → List Case → Type 0
Hold t [] = Unit {0}
Hold t (gives f id ∷ cs) = let out = f t in (out.1 ≡ id) × Hold out.0 cs
Hold t (asks f b ∷ cs) = (f t ≡ b) × Hold t cs

unfoldable pub starred : List Case
starred =
    -- C1* x<5 gives 2. C2* x>=5 gives 3. C3* x<=5 gives 4.
    gives (λ t. comparison t x LessThan (pos 5)) 2
    ∷ gives (λ t. comparison t x GreaterEqual (pos 5)) 3
    ∷ gives (λ t. comparison t x LessEqual (pos 5)) 4
    -- C4* 2 and 3: FALSE. C5* 2 and 4: 2. C6* 3 and 4: 7. C7* x=5: 7; x!=5: 6.
    ∷ gives (λ t. and t 2 3) FALSE
    ∷ gives (λ t. and t 2 4) 2
    ∷ gives (λ t. and t 3 4) 7
    ∷ gives (λ t. comparison t x Equal (pos 5)) 7
    ∷ gives (λ t. comparison t x NotEqual (pos 5)) 6
    -- C8* a gives 8. C9* 2 and 8: 10. C10* 2 or 8: 12.
    ∷ gives (λ t. from_bool t a) 8
    ∷ gives (λ t. and t 2 8) 10
    ∷ gives (λ t. or t 2 8) 12
    -- C11* open (1,2) gives 15, and is disjoint with x=1, which is 17, and with x=2, which is 19.
    ∷ gives (λ t. from_range t x (Excludes (pos 1)) (Excludes (pos 2))) 15
    ∷ gives (λ t. comparison t x Equal (pos 1)) 17
    ∷ asks (λ t. is_disjoint t 15 17) true
    ∷ gives (λ t. comparison t x Equal (pos 2)) 19
    ∷ asks (λ t. is_disjoint t 15 19) true
    -- C12* 10 at place 8 with a true: yes; at place 10: no.
    ∷ asks (λ t. says t (everywhere (pos 8) (le_z_yes tt, le_z_yes tt)) 10) true
    ∷ asks (λ t. says t (everywhere (pos 10) (le_z_yes tt, le_z_yes tt)) 10) false
    ∷ []
