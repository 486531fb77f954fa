-- One record more, or one less: how the words of two tables differ that differ by their last node. Assumes nothing.
use Rattle.std.specs.Prelude.{◌≡◌, List, ◌⊎◌, ℕ, suc, ◌+◌, ◌*◌, ◌≤◌, ◌<◌, length, get_or, pos}
use Rattle.table.specs.Layout.{kid_at, cut_at, Store}
use Rattle.making.specs.Storing.{IndexPut}

-- Words of the second table, beside record n of it and the c edges from e on, are those of the first, which has zeros there.
pub record MoreWords (n e c : ℕ) (st : Store) (st' : Store) : Type 0 where
  pub long : length st'.nodes ≡ length st.nodes
  pub wide : length st'.children ≡ length st.children
  pub deep : length st'.cuts ≡ length st.cuts
  pub word : (i : ℕ) → (i < n * 4) ⊎ (n * 4 + 4 ≤ i) → get_or st'.nodes i 0 ≡ get_or st.nodes i 0
  pub no_word : (i : ℕ) → n * 4 ≤ i → i < n * 4 + 4 → get_or st.nodes i 0 ≡ 0
  pub child : (i : ℕ) → (i < e) ⊎ (e + c ≤ i) → kid_at st'.children i ≡ kid_at st.children i
  pub no_child : (i : ℕ) → e ≤ i → i < e + c → kid_at st.children i ≡ 0
  pub cut : (i : ℕ) → (i < e) ⊎ (e + c ≤ i) → cut_at st'.cuts i ≡ cut_at st.cuts i
  pub no_cut : (i : ℕ) → e ≤ i → i < e + c → cut_at st.cuts i ≡ pos 0

-- The index with node n put into bucket b between the nodes of the words p and q,
abbrev pub NodeIn : (r n b p q h : ℕ) → List ℕ → List ℕ → Type 0
NodeIn r n b p q h = IndexPut r n b p q (suc n) (suc n) q p h

-- and with node n, which stands there, taken out.
abbrev pub NodeOut : (r n b p q : ℕ) → List ℕ → List ℕ → Type 0
NodeOut r n b p q = IndexPut r n b p q q p 0 0 0
