-- Values along a line of positions, piece by piece: the edges of a node, and what is laid over them. Assumes nothing.
use Rattle.std.specs.Prelude.{cond, ℕ, ltb}

-- Each value up to its cut, the first position to its right, and a last value that is open to the right.
pub data Pieces (A : Type 0) : Type 0 where
  last : A → Pieces A
  cut : A → ℕ → Pieces A → Pieces A

-- The value at a position.
abbrev pub select : {A : Type 0} → Pieces A → ℕ → A
select (last a) p = a
select (cut a k e) p = cond (ltb p k) a (select e p)
