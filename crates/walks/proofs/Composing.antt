-- Outcomes one after another. Assumes nothing.
use mathlib.Core.Path.{◌≡◌, refl, sym, ◌∙◌, ap, subst}
use mathlib.Core.Bool.{true, false}
use mathlib.Core.List.{List}
use Prim.Native.Nat.{ℕ, ◌*◌, ◌/◌, ◌≤◌, ◌<◌}
use native.Mathlib.Omega.{arith}
use lib.ListN.{length}
use Rattle.ids.specs.Id.{KnownTo}
use Rattle.ids.specs.declared.NodeId.{NodeId}
use Rattle.diagram.specs.Table.{variables, Table, Continues}
use Rattle.diagram.specs.Sound.{Sound}
use Rattle.diagram.specs.Room.{Fits}
use Rattle.table.specs.Layout.{most_nodes, room, Store}
use Rattle.table.proofs.Laws.{not_false_and_true}
use Rattle.table.proofs.Bridge.{sound_held}
use Rattle.merging.proofs.Fitting.{fits_before}
use Rattle.table.specs.declared.lent.Used.{Used}
use Rattle.making.specs.Made.{Made}
use Rattle.making.specs.Outcome.{Lent, Outcome, table_of}
use Rattle.making.proofs.Kept.{stays_refl, stays_trans, stays_continues}
use Rattle.making.proofs.Taken.{cuts_as_long, index_as_long}
use Rattle.views.specs.Seeing.{Readable}
use Rattle.views.proofs.Sights.{sound_readable}
use Rattle.memo.specs.Recalling.{Framed, Noted}
use Rattle.memo.proofs.Recalled.{noted_true, memo_still}
use Rattle.walks.specs.Walking.{Note, Ready, Stepped}

-- What is noted of a table stays true of one that continues it.
abbrev pub Grows : Note → Type 0
Grows P = (t t' : Table) → Sound t → Sound t' → Continues t t' → (x y z : ℕ) → P t x y z → P t' x y z

pub lent_sound : {h : Used} {st : Store} {index : List ℕ} → Lent h st index → Sound (table_of h st)
lent_sound {h} {st} {index} l = sound_held st index h.nodes l.sound

-- A lent table can be read.
pub lent_readable : {h : Used} {st : Store} {index : List ℕ} → Lent h st index → Readable st h.nodes
lent_readable {h} {st} {index} l = sound_readable st index h.nodes l.allowed l.sound

-- The outcome where no node is made.
pub outcome_adds_nothing : {h : Used} {st : Store} {index : List ℕ} → Lent h st index → {want : Table × ℕ} (id : NodeId) → want ≡ (table_of h st, id.0) → Outcome h want (record { ok = true; id = id; used = h }) st st index
outcome_adds_nothing l id e = record { lent = l; stays = stays_refl; table = λ q. sym (ap (λ (x : Table × ℕ). x.0) e); id = λ q. sym (ap (λ (x : Table × ℕ). x.1) e); full = λ q. absurd (not_false_and_true q refl) }

-- Known ids are small enough for an entry of the memo.
pub known_small : {h : Used} {st : Store} {index : List ℕ} → Lent h st index → {x : ℕ} → KnownTo h.nodes x → x < 262144
known_small l k = omega (arith, l.sound.records.fits, l.allowed.nodes_at_most)

module _ {P : Note} {h : Used} {st : Store} {index memo : List ℕ} (r : Ready P h st index memo) where
  -- What a look at the memo asks, and what a note asks.
  pub ready_recalls : {x y : ℕ} → KnownTo h.nodes x → KnownTo h.nodes y → (1 ≤ length memo) × (length memo ≤ most_nodes * 8) × Framed memo × (x < 262144) × (y < 262144)
  ready_recalls j k = (omega (arith, r.long.some_sets), omega (arith, r.long.sets, r.long.most_sets, r.lent.allowed.nodes_at_most), r.recalled.framed, known_small r.lent j, known_small r.lent k)

  pub ready_remembers : {x y z v : ℕ} → KnownTo h.nodes x → KnownTo h.nodes y → KnownTo h.nodes z → v < variables
      → (8 ≤ length memo) × (length memo ≤ most_nodes * 8) × Framed memo × (x < 262144) × (y < 262144) × (z < 262144) × (v < variables)
  ready_remembers i j k l = let q = ready_recalls i j in (omega (arith, r.long.some_sets), q.1, q.2, q.3, q.4, known_small r.lent k, l)

  pub ready_readable : Readable st h.nodes
  ready_readable = lent_readable r.lent

  -- What was settled without a node.
  pub stepped_adds_nothing : {want : Table × ℕ} (id : NodeId) → want ≡ (table_of h st, id.0) → Stepped P h want (record { ok = true; id = id; used = h }) st memo st index memo
  stepped_adds_nothing id e = record { outcome = outcome_adds_nothing r.lent id e; long = refl; recalled = r.recalled }

  -- What was made here.
  pub stepped_of_outcome : Grows P → {want : Table × ℕ} {m : Made} {st' : Store} {index' : List ℕ} → Outcome h want m st st' index' → Stepped P h want m st memo st' index' memo
  stepped_of_outcome grows d = record { outcome = d; long = refl; recalled = memo_still (grows _ _ (lent_sound r.lent) (lent_sound d.lent) (stays_continues r.lent d.stays)) r.recalled }

  module _ {want : Table × ℕ} {m : Made} {st' : Store} {index' memo' : List ℕ} (c : Stepped P h want m st memo st' index' memo') where
    -- Every slice keeps its length,
    pub cuts_same_length : length st'.cuts ≡ length st.cuts
    cuts_same_length = cuts_as_long r.lent.allowed c.outcome.lent.allowed c.outcome.stays.wide

    pub index_same_length : length index' ≡ length index
    index_same_length = index_as_long r.lent.allowed c.outcome.lent.allowed c.outcome.stays.long

    same_room : room st'.nodes ≡ room st.nodes
    same_room = ap (λ (n : ℕ). n / 4) c.outcome.stays.long

    -- and the next step finds what it asks.
    pub ready_after_step : Ready P m.used st' index' memo'
    ready_after_step = record { lent = c.outcome.lent; long = rw (c.long, same_room) r.long; recalled = c.recalled }

    pub stepped_continues : Continues (table_of h st) (table_of m.used st')
    stepped_continues = stays_continues r.lent c.outcome.stays

    fits_moved : {t : Table} → Fits (room st.nodes) (length st.children) t → Fits (room st'.nodes) (length st'.children) t
    fits_moved {t} f = subst (λ (n : ℕ). Fits n (length st'.children) t) (sym same_room) (subst (λ (n : ℕ). Fits (room st.nodes) n t) (sym c.outcome.stays.wide) f)

    -- One step after another,
    pub stepped_trans : {want' : Table × ℕ} {m' : Made} {st'' : Store} {index'' memo'' : List ℕ} → Stepped P m.used want' m' st' memo' st'' index'' memo'' → Stepped P h want' m' st memo st'' index'' memo''
    stepped_trans d = record {
      outcome = record { lent = d.outcome.lent; stays = stays_trans c.outcome.stays d.outcome.stays; table = d.outcome.table; id = d.outcome.id; full = λ q f. d.outcome.full q (fits_moved f) };
      long = d.long ∙ c.long;
      recalled = d.recalled;
    }

    -- and making a node at the end.
    pub stepped_then_outcome : Grows P → {want' : Table × ℕ} {m' : Made} {st'' : Store} {index'' : List ℕ} → Outcome m.used want' m' st' st'' index'' → Stepped P h want' m' st memo st'' index'' memo'
    stepped_then_outcome grows d = record {
      outcome = record { lent = d.lent; stays = stays_trans c.outcome.stays d.stays; table = d.table; id = d.id; full = λ q f. d.full q (fits_moved f) };
      long = c.long;
      recalled = memo_still (grows _ _ (lent_sound c.outcome.lent) (lent_sound d.lent) (stays_continues c.outcome.lent d.stays)) c.recalled;
    }

module _ {P : Note} {h : Used} {want want' : Table × ℕ} {m : Made} {st : Store} {memo : List ℕ} {st' : Store} {index' memo' : List ℕ} (c : Stepped P h want m st memo st' index' memo') where
  pub stepped_equal_want : want ≡ want' → Stepped P h want' m st memo st' index' memo'
  stepped_equal_want e = subst (λ (w : Table × ℕ). Stepped P h w m st memo st' index' memo') e c

  -- Where a step has no room, nothing that comes after it has.
  pub stepped_fails_onward : m.ok ≡ false → Continues want.0 want'.0 → Stepped P h want' m st memo st' index' memo'
  stepped_fails_onward bad g = record {
    outcome = record {
      lent = c.outcome.lent;
      stays = c.outcome.stays;
      table = λ q. absurd (not_false_and_true bad q);
      id = λ q. absurd (not_false_and_true bad q);
      full = λ q f. c.outcome.full bad (fits_before g _ _ f);
    };
    long = c.long;
    recalled = c.recalled;
  }

-- One more answer is noted.
pub stepped_with_note : {P : Note} {h : Used} {want : Table × ℕ} {m : Made} {st : Store} {memo : List ℕ} {st' : Store} {index' memo' memo'' : List ℕ} → Stepped P h want m st memo st' index' memo'
    → {x y z : ℕ} → P (table_of m.used st') x y z → Noted memo' x y z memo'' → Stepped P h want m st memo st' index' memo''
stepped_with_note c e o = record { outcome = c.outcome; long = o.long ∙ c.long; recalled = noted_true c.recalled e o }
