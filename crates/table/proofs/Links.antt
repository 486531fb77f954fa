-- What the pass over the links finds at one node, case by case. Assumes nothing.
use mathlib.Core.Path.{◌≡◌, sym, ◌∙◌, subst}
use mathlib.Core.Bool.{Bool, true, false}
use mathlib.Core.List.{List}
use Prim.Native.Nat.{ℕ, suc, ◌+◌, ◌*◌, ◌<◌}
use native.Mathlib.Omega.{arith}
use Rattle.chains.specs.Local.{leads, follows}
use Rattle.chains.specs.Row.{words}
use Rattle.std.specs.Prelude.{Decides}
use Rattle.table.specs.Layout.{room, Store}
use Rattle.table.specs.Indexed.{bucket_at, precedes}
use Rattle.table.specs.Checking.{LinkedAt}
use Rattle.table.proofs.Laws as laws

-- m is the node before n
pub record Follows (st : Store) (index : List ℕ) (u n m : ℕ) : Type 0 where
  pub used : m < u
  pub back : words index (room st.nodes + m) ≡ suc n
  pub bucket : bucket_at st m ≡ bucket_at st n
  pub ordered : precedes st m n ≡ true

module _ (st : Store) (index : List ℕ) (u n : ℕ) where
  -- no node is before n: its bucket's word decides
  pub first_linked : {b : ℕ} {r : Bool} → words index (room st.nodes * 2 + n) ≡ 0 → b ≡ bucket_at st n → Decides r (words index b ≡ suc n) → Decides r (LinkedAt st index u n)
  first_linked {b} e q d = laws.to d (λ h. leads e (sym (laws.get_d_at_equal index b (bucket_at st n) q) ∙ h)) (λ k. go k)
    where
      go : LinkedAt st index u n → words index b ≡ suc n
      go (leads p f) = laws.get_d_at_equal index b (bucket_at st n) q ∙ f
      go (follows m p l f c o) = absurd (omega arith)

  module _ (m : ℕ) (e : words index (room st.nodes * 2 + n) ≡ suc m) where
    pub linked_follows : LinkedAt st index u n → Follows st index u n m
    linked_follows (leads p f) = absurd (omega arith)
    linked_follows (follows k p l f c o) = subst (Follows st index u n) (let i : k ≡ m = omega arith in i) (record { used = l; back = f; bucket = c; ordered = o })

    -- the last test is the order
    pub order_linked : {r : Bool} → m < u → words index (room st.nodes + m) ≡ suc n → bucket_at st m ≡ bucket_at st n → r ≡ precedes st m n → Decides r (LinkedAt st index u n)
    order_linked {r} l f c o = go r o
      where
        go : (r : Bool) → r ≡ precedes st m n → Decides r (LinkedAt st index u n)
        go true o = laws.holds (follows m e l f c (sym o))
        go false o = laws.fails (λ k. laws.not_false_and_true (sym o) (linked_follows k).ordered)
