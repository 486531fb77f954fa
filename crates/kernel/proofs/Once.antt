-- Any two outcomes that a contract permits are the same: the number, the id or the answer, and every word. Assumes nothing.
use mathlib.Core.Path.{◌≡◌, refl, sym, ◌∙◌, ap, subst}
use mathlib.Core.Bool.{Bool}
use mathlib.Core.List.{List}
use Prim.Native.Nat.{ℕ}
use lib.ListN.{length}
use Rattle.diagram.specs.Table.{Table}
use Rattle.diagram.specs.Room.{Fits}
use Rattle.table.specs.Layout.{room, Store}
use Rattle.table.specs.Lent.{SoundLent}
use Rattle.table.specs.Held.{held}
use Rattle.table.proofs.Once.{sound_once}
use Rattle.table.proofs.Hearing.{not_refused, refuses_once, replies_once}
use Rattle.table.proofs.Promises.{fits_its_room, same_table_same_words}
use Rattle.kernel.specs.Makes.{Leaves, Makes, made_no, made_6, made_0, Disjoints}

-- what a call leaves in its room fits it
pub leaves_fits : {t : Table} {st : Store} {index : List ℕ} {st' : Store} {index' : List ℕ}
    → Leaves t st index st' index' → Fits (room st.nodes) (length st.children) t
leaves_fits {st' = st'} {index'} l =
    rw (sym l.long, sym l.wide, sym l.holds) (fits_its_room st' index' l.used l.sound)

module _ (lent : Type 0) (known : ℕ → Type 0) (kind : Type 0) (want : Table → Table × ℕ) (st : Store) (index memo : List ℕ) where
  abbrev Out : ℕ → ℕ → Store → List ℕ → List ℕ → Type 0
  Out k id st' index' m = Makes lent known kind want st index memo k id st' index' m

  one : {u u' : ℕ} → SoundLent st index u → SoundLent st index u' → u ≡ u'
  one {u} {u'} s s' = sound_once st index u u' s s'

  -- the operation's own result, from the table of u records
  abbrev wanted : ℕ → Table × ℕ
  wanted u = want (held st u)

  abbrev Room : ℕ → Type 0
  Room u = Fits (room st.nodes) (length st.children) (wanted u).0

  -- both are done
  same_done : {u u' : ℕ} {st' st'' : Store} {index' index'' : List ℕ} → u ≡ u' → Leaves (wanted u).0 st index st' index' → Leaves (wanted u').0 st index st'' index'' → (st' ≡ st'') × (index' ≡ index'')
  same_done {st' = st'} {st''} {index'} {index''} e h h' =
      same_table_same_words st' index' st'' index'' h.used h'.used (h.long ∙ sym h'.long) (h.wide ∙ sym h'.wide) (h.deep ∙ sym h'.deep) (h.indexed ∙ sym h'.indexed)
      h.sound h'.sound (h.holds ∙ ap (λ (m : ℕ). (wanted m).0) e ∙ sym h'.holds)

  pub makes_once : {k k' id id' : ℕ} {st' st'' : Store} {index' index'' m m' : List ℕ} → Out k id st' index' m → Out k' id' st'' index'' m'
      → (k ≡ k') × (id ≡ id') × (st' ≡ st'') × (index' ≡ index'') × (m ≡ m')
  makes_once (made_no f) (made_no g) = (refuses_once f g, refl, refl, refl, refl)
  makes_once (made_no f) (made_6 l u s k v g) = absurd (not_refused l s k v f)
  makes_once (made_no f) (made_0 l u s k v _ _ h) = absurd (not_refused l s k v f)
  makes_once (made_6 l u s k v f) (made_no g) = absurd (not_refused l s k v g)
  makes_once (made_6 l u s k v f) (made_6 l' u' s' k' v' f') = (refl, refl, refl, refl, refl)
  makes_once (made_6 l u s k v f) (made_0 l' u' s' k' v' _ _ h') = absurd (f (subst Room (one s' s) (leaves_fits h')))
  makes_once (made_0 l u s k v _ _ h) (made_no g) = absurd (not_refused l s k v g)
  makes_once (made_0 l u s k v _ _ h) (made_6 l' u' s' k' v' f') = absurd (f' (subst Room (one s s') (leaves_fits h)))
  makes_once (made_0 l u s k v _ _ h) (made_0 l' u' s' k' v' _ _ h') = let w = same_done (one s s') h h' in (refl, ap (λ (m : ℕ). (wanted m).1) (one s s'), w.0, w.1, refl)

-- and of disjointness
pub disjoints_once : (st : Store) (index : List ℕ) (x y : ℕ) {k k' : ℕ} {b b' : Bool} → Disjoints st index x y k b → Disjoints st index x y k' b' → (k ≡ k') × (b ≡ b')
disjoints_once st index x y = replies_once st index _ _ _ _ (λ u p p'. refl)
