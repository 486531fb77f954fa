-- Keys and hash of a node under construction. Assumes nothing.
use mathlib.Core.Path.{◌≡◌, refl, ap}
use mathlib.Core.Bool.{Bool, true, false, cond, ◌&&◌}
use Prim.Native.Nat.{ℕ, zero, suc, ◌+◌, ◌≤◌, ◌<◌}
use native.Mathlib.Omega.{arith}
use native.Mathlib.Numerals.{add-one}
use borrow.Author.Tests.{lt-ltb, le-ltb}
use lib.Dec.{ltb}
use lib.ListN.{get_or}
use Rattle.ids.specs.Id.{under}
use Rattle.diagram.specs.Table.{is_range}
use Rattle.table.specs.Indexed.{mix}
use Rattle.making.specs.declared.edges.Edge.{Edge}
use Rattle.making.specs.declared.edges.Edges as built
use Rattle.making.specs.Building.{none, child_in, cut_in, zero_cut, key_in, hash_in}

-- the key of an edge, as it is computed
pub key_is : (v j : ℕ) (es : built.Edges) → cond (is_range v && ltb (j + 1) es.len) (cut_in es j) zero_cut ≡ key_in v es j
unfolding key_in
key_is v j es = refl

-- by the kind of its variable and its place among the edges
pub key_own : (v j : ℕ) (es : built.Edges) → v < 32 → j + 1 < es.len → key_in v es j ≡ cut_in es j
unfolding key_in
key_own v j es h l = rw (lt-ltb v 32 h, lt-ltb (j + 1) es.len l)

pub key_none : (v j : ℕ) (es : built.Edges) → es.len ≤ j + 1 → key_in v es j ≡ zero_cut
unfolding key_in
key_none v j es l = go (is_range v)
  where
    go : (b : Bool) → cond (b && ltb (j + 1) es.len) (cut_in es j) zero_cut ≡ zero_cut
    go true = rw (le-ltb (j + 1) es.len l)
    go false = refl

pub key_bool : (v j : ℕ) (es : built.Edges) → 32 ≤ v → key_in v es j ≡ zero_cut
unfolding key_in
key_bool v j es h = rw (le-ltb v 32 h)

-- the hash, edge by edge
pub hash_none : (v s : ℕ) (es : built.Edges) → v < 4294967296 → hash_in v s es 0 ≡ v
unfolding hash_in
hash_none v s es h = omega arith

pub hash_next : (v s : ℕ) (es : built.Edges) (j : ℕ) → hash_in v s es (j + 1) ≡ mix (hash_in v s es j) (under s (child_in es j)) (key_in v es j)
unfolding hash_in
hash_next v s es j = ap (hash_in v s es) (add-one j)

-- so as it is computed
pub hash_more : (v s : ℕ) (es : built.Edges) (j : ℕ) {e : Edge} {count h c k r : ℕ} → e ≡ get_or es.list j none → count ≡ es.len → h ≡ hash_in v s es j → c ≡ under s e.child.0 → k ≡ cond (is_range v && ltb (j + 1) count) e.cut zero_cut → r ≡ mix h c k → r ≡ hash_in v s es (j + 1)
unfolding key_in
hash_more v s es j a b d f g i = let n = hash_next v s es j in cc

pub hash_in_lt : (v s : ℕ) (es : built.Edges) (j : ℕ) → hash_in v s es j < 4294967296
unfolding hash_in
hash_in_lt v s es zero = omega arith
hash_in_lt v s es (suc j) = omega arith
