-- What the proofs of the public calls hand their facts to: each row of an outcome from what the code has found. Assumes nothing.
use mathlib.Core.Path.{◌≡◌, refl, ◌∙◌, ap}
use mathlib.Core.Bool.{Bool, true, false, cond}
use mathlib.Core.List.{List}
use Prim.Native.Nat.{ℕ}
use lib.ListN.{length, replicate}
use Rattle.ids.specs.Id.{FALSE}
use Rattle.diagram.specs.Table.{Table}
use Rattle.diagram.specs.Room.{Fits}
use Rattle.table.specs.Layout.{room, Store}
use Rattle.table.specs.Lent.{SoundLent}
use Rattle.table.specs.Held.{held}
use Rattle.table.specs.Told.{done, no_room, Allowed}
use Rattle.table.specs.declared.lent.Used.{Used}
use Rattle.making.specs.Made.{Made}
use Rattle.making.specs.Outcome.{Lent, Outcome, Creates, table_of}
use Rattle.making.proofs.Taken.{cuts_as_long, index_as_long}
use Rattle.kernel.specs.Makes.{Leaves, Makes, made_6, made_0}

-- what a call leaves, from a table that is sound again in the same room
pub leaves_it : {t : Table} (st : Store) (index : List ℕ) (st' : Store) (index' : List ℕ) (u : ℕ) → Allowed st index → Allowed st' index'
    → length st'.nodes ≡ length st.nodes → length st'.children ≡ length st.children → SoundLent st' index' u → held st' u ≡ t
    → Leaves t st index st' index'
leaves_it st index st' index' u a b l w s e = record { long = l; wide = w; deep = cuts_as_long a b w; indexed = index_as_long a b l; used = u; sound = s; holds = e }

module _ (lent : Type 0) (known : ℕ → Type 0) (kind : Type 0) (want : Table → Table × ℕ) (st : Store) (index memo : List ℕ) where
  module _ {u : ℕ} (l : lent) (s : SoundLent st index u) (a : known u) (v : kind) where
    -- row 6, from words that are as they were
    pub no_room_it : {st' : Store} {index' memo' : List ℕ} → (Fits (room st.nodes) (length st.children) (want (held st u)).0 → ⊥)
        → st' ≡ st → index' ≡ index → memo' ≡ replicate (length memo) 0
        → Makes lent known kind want st index memo no_room FALSE st' index' memo'
    no_room_it f p q z = rw (p, q, z) (made_6 l u s a v f)

    -- row 0, from the operation's own table and id
    pub done_it : {id : ℕ} {st' : Store} {index' memo' : List ℕ} → Leaves (want (held st u)).0 st index st' index'
        → id ≡ (want (held st u)).1 → memo' ≡ replicate (length memo) 0 → Makes lent known kind want st index memo done id st' index' memo'
    done_it h e z = rw (e, z) (made_0 l u s a v _ _ h)

  -- both, from what was made
  module _ {h : Used} {made : Table × ℕ} {r : Made} {st' : Store} {index' memo' : List ℕ} (l : lent) (t : Lent h st index) (a : known h.nodes) (v : kind)
      (c : Creates h made r st index st' index') (z : memo' ≡ replicate (length memo) 0)
      (e : made ≡ want (table_of h st)) where
    o : Outcome h made r st st' index'
    o = c.outcome

    pub outcome_told : {n id : ℕ} → (n ≡ cond r.ok done no_room) × (id ≡ cond r.ok r.id.0 FALSE) → Makes lent known kind want st index memo n id st' index' memo'
    outcome_told {n} {id} q = go r.ok refl q
      where
        go : (b : Bool) → r.ok ≡ b → (n ≡ cond b done no_room) × (id ≡ cond b r.id.0 FALSE) → Makes lent known kind want st index memo n id st' index' memo'
        go true y q =
            let x = leaves_it st index st' index' r.used.nodes t.allowed o.lent.allowed o.stays.long o.stays.wide o.lent.sound (o.table y ∙ ap (λ (w : Table × ℕ). w.0) e) in
            rw q.0 (done_it l t.sound a v x (q.1 ∙ (o.id y ∙ ap (λ (w : Table × ℕ). w.1) e)) z)
        go false y q =
            let w = c.untouched y in
            rw (q.0, q.1) (no_room_it l t.sound a v (λ f. o.full y (rw e f)) w.same w.index_same z)
