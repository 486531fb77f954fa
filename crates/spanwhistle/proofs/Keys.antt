-- The code hands a key on as 32 bits, which is the key that it was given. Assumes nothing.
use mathlib.Core.List.{List, []}
use Prim.Native.Nat.{ℕ}
use lib.IntN.{ℤ}
use Rattle.table.specs.Layout.{Store}
use mir.Syntax.{w32}
use mir.Val.{SFits, to_z, of_z}
use mir.ValLaws.{to_z-of_z}
use Rattle.ranges.specs.declared.bounds.Comparison.{Comparison}
use Rattle.kernel.specs.Calls.{comparison_of}
use Rattle.kernel.specs.Makes.{Comes}

pub key_handed : {st : Store} {index : List ℕ} (v : ℕ) (op : Comparison) (key : ℤ) {number id : ℕ} {st' : Store} {index' : List ℕ}
    → SFits w32 key → Comes (comparison_of v op (to_z w32 (of_z w32 key))) st index [] number id st' index' []
    → Comes (comparison_of v op key) st index [] number id st' index' []
key_handed v op key f k = rw (to_z-of_z w32 key f) at k
