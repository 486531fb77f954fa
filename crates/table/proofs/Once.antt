-- A sound table has one number of nodes. Assumes nothing.
use mathlib.Core.Path.{◌≡◌}
use mathlib.Core.List.{List}
use Prim.Native.Nat.{ℕ, ◌+◌, ◌*◌, ◌<◌}
use native.Mathlib.Omega.{arith}
use Rattle.table.specs.Lent.{SoundRecords, SoundLent}
use Rattle.table.proofs.Laws.{Order, less, equal, more, lt_eq_or_gt}
use Rattle.table.specs.Layout.{Store}

module _ (st : Store) where
  shorter : (u v : ℕ) → u < v → SoundRecords st u → SoundRecords st v → ⊥
  shorter u v l s t = omega (arith, (t.rules u l).many, s.no_node (u * 4 + 1) (omega arith))

  pub records_once : (u v : ℕ) → SoundRecords st u → SoundRecords st v → u ≡ v
  records_once u v s t = go (lt_eq_or_gt u v)
    where
      go : Order u v → u ≡ v
      go (less l) = absurd (shorter u v l s t)
      go (equal e) = e
      go (more l) = absurd (shorter v u l t s)

  pub sound_once : (index : List ℕ) (u v : ℕ) → SoundLent st index u → SoundLent st index v → u ≡ v
  sound_once index u v s t = records_once u v s.records t.records
