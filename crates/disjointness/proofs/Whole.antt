-- The whole operation: a memo of zeros may be handed down, and of a sound table the answer is that of the table it holds. Assumes nothing.
use mathlib.Core.Path.{◌≡◌, sym, ◌∙◌, ap, subst}
use mathlib.Core.Bool.{Bool, true, false, false≢true}
use mathlib.Core.List.{List}
use mathlib.Core.Logic.{◌⊎◌, inl, inr}
use Rattle.std.proofs.Common.{Option, Some, None, unwrap_or}
use Prim.Native.Nat.{ℕ, ◌+◌, ◌*◌, ◌≤◌}
use native.Mathlib.Omega.{arith}
use lib.ListN.{replicate, length-replicate}
use Rattle.ids.specs.Id.{KnownTo}
use Rattle.diagram.specs.Table.{variables}
use Rattle.algebra.specs.Disjointness.{is_disjoint}
use Rattle.table.specs.Layout.{most_nodes, Store}
use Rattle.table.specs.Lent.{SoundLent}
use Rattle.table.specs.Held.{held}
use Rattle.table.specs.Told.{Allowed}
use Rattle.memo.proofs.Recalled.{memo_zeroed}
use Rattle.views.specs.Seeing.{used_in, Readable}
use Rattle.views.proofs.Sights.{sound_readable, asked_of_all_known, used_is}
use Rattle.disjointness.specs.Asking.{whole, AskedPair, Answers}

pub zeroed_asked : {st : Store} {x y : ℕ} (k : ℕ) → k ≤ most_nodes * 8 → Readable st (used_in st.nodes) → KnownTo (used_in st.nodes) x → KnownTo (used_in st.nodes) y → AskedPair st (replicate k 0) (variables + 1) x y
zeroed_asked k h r hx hy = record {
  listed = record { readable = r; most = omega (arith, length-replicate {A = ℕ} k 0); pairs = memo_zeroed k };
  left = asked_of_all_known hx;
  right = asked_of_all_known hy;
}

-- a yes is the answer, and so is a no with a rest: what the walks promised when they answered a flag and a rest
pub sure_answer : {st : Store} {noted : List ℕ} {rest rest' : ℕ} {want : Bool} {r : Option Bool} → Answers st noted rest rest' want r → (unwrap_or r false ≡ true) ⊎ (1 ≤ rest') → unwrap_or r false ≡ want
sure_answer {r = None} a (inl h) = absurd (false≢true h)
sure_answer {r = None} a (inr h) = absurd (omega (arith, a.right))
sure_answer {r = Some b} a h = a.right

module _ {st : Store} {index : List ℕ} {u : ℕ} (s : SoundLent st index u) where
  used : used_in st.nodes ≡ u
  used = used_is s.records

  pub sound_asked : (x y : ℕ) → Allowed st index → KnownTo u x → KnownTo u y → Readable st (used_in st.nodes) × KnownTo (used_in st.nodes) x × KnownTo (used_in st.nodes) y
  sound_asked x y a hx hy = (subst (Readable st) (sym used) (sound_readable st index u a s), subst (λ (n : ℕ). KnownTo n x) (sym used) hx, subst (λ (n : ℕ). KnownTo n y) (sym used) hy)

  pub sound_answer : {r : Bool} (x y : ℕ) → r ≡ is_disjoint (whole st) x y → r ≡ is_disjoint (held st u) x y
  sound_answer x y a = a ∙ ap (λ (m : ℕ). is_disjoint (held st m) x y) used
