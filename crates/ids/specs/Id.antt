-- Ids as numbers. Document 01, "Readings and conditions", and row 3 of "When the kernel is told no". Assumes nothing.
use Rattle.std.specs.Prelude.{ℕ, zero, suc, ◌+◌, ◌-◌, ◌*◌, ◌/◌, ◌%◌, ◌≤◌}

-- "TRUE is id 0 and FALSE is id 1."
abbrev pub TRUE : ℕ
TRUE = 0

abbrev pub FALSE : ℕ
FALSE = 1

-- "Node number n has id (n+1)·2."
abbrev pub id_of : ℕ → ℕ
id_of n = (n + 1) * 2

-- "The lowest bit is the complement."
abbrev pub sign : ℕ → ℕ
sign id = id % 2

-- What an id refers to, whatever its sign: 0 is the terminal, n + 1 is node number n.
abbrev pub ref : ℕ → ℕ
ref id = id / 2

-- "Flipping that bit negates any id and needs no table."
abbrev pub flip : ℕ → ℕ
flip id = id + 1 - 2 * (id % 2)

-- A child as it is seen from a parent with this sign: negated where the parent is complemented.
abbrev pub under : ℕ → ℕ → ℕ
under zero child = child
under (suc s) child = flip child

-- "An id is no terminal and names no used node" is refused: one that is known, where this many nodes are used.
abbrev pub KnownTo : ℕ → ℕ → Type 0
KnownTo used id = ref id ≤ used
