-- Any two outcomes that the contract of a yes-or-no call permits, for the same input, are the same: the number and the word. The contract
-- of negation is an equation, and those of the other calls are those of `kernel` and `table`, where the same is proved. Assumes nothing.
use mathlib.Core.Path.{◌≡◌, sym, ◌∙◌, ap}
use mathlib.Core.Bool.{Bool}
use mathlib.Core.List.{List}
use Prim.Native.Nat.{ℕ}
use lib.IntN.{ℤ}
use Rattle.table.specs.Layout.{Store}
use Rattle.table.specs.Told.{Hears}
use Rattle.table.proofs.Hearing.{hears_once}
use Rattle.kernel.specs.Makes.{Disjoints}
use Rattle.kernel.proofs.Once.{disjoints_once}
use Rattle.spanwhistle.specs.Numbers.{word_of, Telling}

-- of any call, where its number and its answer are one
same_word : {tells : ℕ → Bool → Type 0} {k k' w w' : ℕ} (t : Telling tells k w) (t' : Telling tells k' w') → (k ≡ k') × (t.yes ≡ t'.yes) → (k ≡ k') × (w ≡ w')
same_word t t' same = (same.0, t.written ∙ ap word_of same.1 ∙ sym t'.written)

module _ (st : Store) (index : List ℕ) where
  pub disjoint_word_once : (x y : ℕ) {k k' w w' : ℕ} → Telling (Disjoints st index x y) k w → Telling (Disjoints st index x y) k' w' → (k ≡ k') × (w ≡ w')
  disjoint_word_once x y t t' = same_word t t' (disjoints_once st index x y t.told t'.told)

  pub evaluate_word_once : (places : List ℤ) (bools id : ℕ) {k k' w w' : ℕ}
      → Telling (Hears st index places bools id) k w → Telling (Hears st index places bools id) k' w' → (k ≡ k') × (w ≡ w')
  evaluate_word_once places bools id t t' = same_word t t' (hears_once st index places bools id t.told t'.told)
