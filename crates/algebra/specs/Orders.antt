-- Cases of ours for the order of making. Document 01, step 5: x and y are ranges, a to d are booleans. Assumes nothing.
use Rattle.std.specs.Prelude.{true, List, [], ◌∷◌, ℕ, pos}
use Rattle.ranges.specs.declared.bounds.Bound.TheVariants.{Open, Includes, Excludes}
use Rattle.ranges.specs.declared.bounds.Comparison.TheVariants.{Equal, LessThan, LessEqual, GreaterEqual}
use Rattle.algebra.specs.Conditions.{from_range, comparison, from_bool}
use Rattle.algebra.specs.Conjunction.{and, or}
use Rattle.algebra.specs.Changing.{restrict, narrow, widen}
use Rattle.algebra.specs.Cases.{x, a, Case, gives, Hold}

abbrev pub y : ℕ
y = 1

abbrev pub b : ℕ
b = 33

abbrev pub c : ℕ
c = 34

abbrev pub d : ℕ
d = 35

-- Each of some lists does, each from a fresh table.
abbrev pub HoldEach : List (List Case) → Type 0
HoldEach [] = Unit {0}
HoldEach (l ∷ ls) = Hold [] l × HoldEach ls

-- The order of making. In each of the lists below a call makes a node over two new ones, and the calls after it find these two: in the
-- other order each would have the other's number.

-- "Booleans high then low where both sides test the variable." 12 is (a and b) or c, and 19 is (a and not c) or not b. Both are: if a, one
-- of b and c and not the other, 21; else c and not b, 23. (10 is b or c, and 16 is b and c.)
abbrev pub both_test : List Case
both_test =
    gives (λ t. from_bool t a) 2
    ∷ gives (λ t. from_bool t b) 4
    ∷ gives (λ t. from_bool t c) 6
    ∷ gives (λ t. and t 2 4) 8
    ∷ gives (λ t. or t 8 6) 12
    ∷ gives (λ t. and t 2 7) 15
    ∷ gives (λ t. or t 15 5) 19
    ∷ gives (λ t. and t 12 19) 25
    ∷ gives (λ t. and t 10 17) 21
    ∷ gives (λ t. and t 5 6) 23
    ∷ []

-- "Low then high where only one does." 13 is one of a and b and not the other. With c it is: if not a, b and c, 14; else c and not b, 17.
abbrev pub one_tests : List Case
one_tests =
    gives (λ t. from_bool t a) 2
    ∷ gives (λ t. from_bool t b) 4
    ∷ gives (λ t. from_bool t c) 6
    ∷ gives (λ t. and t 2 4) 8
    ∷ gives (λ t. or t 2 4) 10
    ∷ gives (λ t. and t 9 10) 13
    ∷ gives (λ t. and t 13 6) 19
    ∷ gives (λ t. and t 4 6) 14
    ∷ gives (λ t. and t 5 6) 17
    ∷ []

-- "Low then high in steps 7 to 9." 18 is (a and not b) or (b and c and d). Where d is yes it is: if not a, b and c, 20; else c or not b, 22.
abbrev pub restricted : List Case
restricted =
    gives (λ t. from_bool t a) 2
    ∷ gives (λ t. from_bool t b) 4
    ∷ gives (λ t. from_bool t c) 6
    ∷ gives (λ t. from_bool t d) 8
    ∷ gives (λ t. and t 6 8) 10
    ∷ gives (λ t. and t 4 10) 12
    ∷ gives (λ t. and t 2 5) 15
    ∷ gives (λ t. or t 15 12) 18
    ∷ gives (λ t. restrict t d true 18) 24
    ∷ gives (λ t. and t 4 6) 20
    ∷ gives (λ t. or t 5 6) 22
    ∷ []

-- "Ranges left to right." 13 is y in [1,5] where x<5, and y in [2,5] elsewhere.
abbrev pub ranged : List Case
ranged =
    gives (λ t. comparison t x LessThan (pos 5)) 2
    ∷ gives (λ t. from_range t y (Includes (pos 1)) (Includes (pos 4))) 5
    ∷ gives (λ t. from_range t y (Includes (pos 2)) (Includes (pos 5))) 7
    ∷ gives (λ t. and t 2 5) 9
    ∷ gives (λ t. or t 9 7) 13
    -- with y<=3, of which x is no part: [1,3] is 17, and [2,3] is 19
    ∷ gives (λ t. comparison t y LessEqual (pos 3)) 14
    ∷ gives (λ t. and t 13 14) 21
    ∷ gives (λ t. from_range t y (Includes (pos 1)) (Includes (pos 3))) 17
    ∷ gives (λ t. from_range t y (Includes (pos 2)) (Includes (pos 3))) 19
    -- with (x<3 or y<=2), so that both test x: [1,2] is 29, and y=2 is 31
    ∷ gives (λ t. comparison t x LessThan (pos 3)) 22
    ∷ gives (λ t. comparison t y LessEqual (pos 2)) 24
    ∷ gives (λ t. or t 22 24) 26
    ∷ gives (λ t. and t 13 26) 33
    ∷ gives (λ t. from_range t y (Includes (pos 1)) (Includes (pos 2))) 29
    ∷ gives (λ t. comparison t y Equal (pos 2)) 31
    -- narrowed to y<=3: y>=1 is 35, and y>=2 is 37
    ∷ gives (λ t. narrow t y Open (Includes (pos 3)) 13) 39
    ∷ gives (λ t. comparison t y GreaterEqual (pos 1)) 35
    ∷ gives (λ t. comparison t y GreaterEqual (pos 2)) 37
    -- widened by y<4: [1,4) is 41, and [2,4) is 43
    ∷ gives (λ t. widen t y Open (Excludes (pos 4)) 13) 45
    ∷ gives (λ t. from_range t y (Includes (pos 1)) (Excludes (pos 4))) 41
    ∷ gives (λ t. from_range t y (Includes (pos 2)) (Excludes (pos 4))) 43
    ∷ []

unfoldable pub orders : List (List Case)
orders = both_test ∷ one_tests ∷ restricted ∷ ranged ∷ []
