-- What a reader of the demands looks for of the public calls, on the words that are lent: what each number means, what a refusal leaves, what
-- the check promises of ids. Assumes nothing.
use mathlib.Core.Path.{◌≡◌, refl, sym, subst}
use mathlib.Core.Bool.{Bool, true, false, ◌&&◌}
use mathlib.Core.List.{List}
use mathlib.Core.Logic.{◌↔◌, inl, inr}
use Prim.Native.Nat.{ℕ, ◌≤◌}
use native.Mathlib.Omega.{arith}
use lib.ListN.{length, replicate}
use Rattle.ids.specs.Id.{FALSE, ref, KnownTo}
use Rattle.diagram.specs.Table.{Table, Continues}
use Rattle.diagram.specs.Sound.{Known}
use Rattle.diagram.specs.Room.{Fits}
use Rattle.diagram.specs.Reading.{Reading, positions, says}
use Rattle.diagram.specs.Ordered.{Diagram, Ordered, Tells, Reached, edges, diagram_of}
use Rattle.diagram.proofs.Continuing.{continues_length}
use Rattle.diagram.proofs.Promises.{old_ids_say_the_same, equal_when_they_agree, no_smaller_diagram}
use Rattle.algebra.specs.Answering.{Answers, Answerable}
use Rattle.algebra.proofs.Promises.{disjoint_exactly, fits_exactly}
use Rattle.table.specs.Layout.{room, Store}
use Rattle.table.specs.Lent.{SoundLent}
use Rattle.table.specs.Held.{held}
use Rattle.table.specs.Told.{done, wrong_variable, Checks, Refuses, refused_1, refused_2, refused_3, refused_last, reply_no, reply_0}
use Rattle.table.proofs.Once.{sound_once}
use Rattle.table.proofs.Hearing.{not_refused, refused_not_done}
use Rattle.table.proofs.Promises.{holds_a_sound_table, counts_what_is_held}
use Rattle.kernel.specs.Calls.{Call, row}
use Rattle.kernel.specs.Makes.{Leaves, Makes, made_no, made_6, made_0, Comes, Disjoints}
use Rattle.kernel.specs.Meaning.{Answered, LentAnswer, DoneOrNoRoom}
use Rattle.kernel.proofs.Admitted.{check_lends}
use Rattle.kernel.proofs.Asked.{makes_what_is_asked, something_is_asked, one_thing_is_asked}
use Rattle.kernel.proofs.Once.{leaves_fits, makes_once}

-- what a sound lent table knows, the table that it holds knows
module _ {st : Store} {index : List ℕ} {u : ℕ} (s : SoundLent st index u) where
  counted : length (held st u) ≡ u
  counted = (counts_what_is_held st index u s).0

  into_held : (id : ℕ) → KnownTo u id → Known (held st u) id
  into_held id k = omega (arith, counted)

-- A lent table that the check takes: it tells 0, with u nodes and e edges used.
module _ {st : Store} {index : List ℕ} {u e : ℕ} (c : Checks st index done u e) where
  taken : SoundLent st index u
  taken = (check_lends c refl).sound

  -- Demand 3: two of its ids are equal exactly when they say the same under every reading.
  pub equal_ids_equal_answers : (a b : ℕ) → KnownTo u a → KnownTo u b → (a ≡ b) ↔ ((ρ : Reading) → says (held st u) ρ a ≡ says (held st u) ρ b)
  equal_ids_equal_answers a b ka kb = equal_when_they_agree (held st u) (holds_a_sound_table st index u taken) a b (into_held taken a ka) (into_held taken b kb)

  -- Demand 3: no ordered diagram that says what one of its ids says has fewer nodes, or fewer edges, than that id reaches in it.
  pub fewest_nodes_and_edges : (a : ℕ) → KnownTo u a → (d : Diagram) → Ordered d → (c : ℕ) → ref c ≤ d.size → ((ρ : Reading) → Tells d (positions ρ) c (says (held st u) ρ a))
      → (rs ss : List ℕ) → Reached (diagram_of (held st u)) a rs → Reached d c ss → (length rs ≤ length ss) × (edges (diagram_of (held st u)) rs ≤ edges d ss)
  fewest_nodes_and_edges a ka = no_smaller_diagram (held st u) (holds_a_sound_table st index u taken) a (into_held taken a ka)

-- The table of lent words that answer is one that answers within the room.
answerable : {m : Reading → Bool} {st : Store} {index : List ℕ} {u : ℕ} → LentAnswer m st index u → Answerable (room st.nodes) (length st.children) (held st u) m
answerable l =
    let w = l.lent in
    record {
      out = (l.table, l.id);
      right = record { sound = rw w.holds at (holds_a_sound_table l.words l.links w.used w.sound); continues = l.continues; known = l.known; means = l.means };
      fits = leaves_fits w;
    }

-- The words that a call leaves beside 0 answer.
left_answer : {m : Reading → Bool} {st : Store} {index : List ℕ} {u : ℕ} {out : Table × ℕ} {st' : Store} {index' : List ℕ} → Answers (held st u) m out → Leaves out.0 st index st' index' → LentAnswer m st index u
left_answer {out = out} {st'} {index'} x h = record { table = out.0; words = st'; links = index'; lent = h; continues = x.right.continues; id = out.1; known = x.right.known; means = x.right.means }

-- Any call that may add nodes, and any of its outcomes.
module _ (q : Call) (st : Store) (index memo : List ℕ) {k id : ℕ} {st' : Store} {index' memo' : List ℕ} (o : Comes q st index memo k id st' index' memo') where
  abbrev Out : ℕ → ℕ → Store → List ℕ → List ℕ → Type 0
  Out n to st'' index'' memo'' = Makes ((row q).lent st index memo) (row q).known (row q).kind (row q).make st index memo n to st'' index'' memo''

  -- what is known to the words is known to the table that they hold
  knows : {u : ℕ} → SoundLent st index u → (row q).known u → (row q).known (length (held st u))
  knows s a = subst (row q).known (sym (counted s)) a

  -- what is asked is made from the table that is held
  made_here : {u : ℕ} → SoundLent st index u → (row q).known u → (row q).kind → (m : Reading → Bool) → (row q).asks (held st u) m → Answers (held st u) m ((row q).make (held st u))
  made_here {u} s a h = makes_what_is_asked (held st u) (holds_a_sound_table st index u s) q o.0 (knows s a) h

  -- whatever it is
  made_so : {u : ℕ} → SoundLent st index u → (row q).known u → (row q).kind → (m : Reading → Bool) × Answers (held st u) m ((row q).make (held st u))
  made_so {u} s a h = let x = something_is_asked (held st u) (holds_a_sound_table st index u s) q o.0 (knows s a) h in (x.0, made_here s a h x.0 x.1)

  -- Demand 2. Number 0: the id is the answer.
  pub call_answered : k ≡ done → Answered q st index id st' index'
  call_answered e = go o.1 e
    where
      go : {n to : ℕ} {st'' : Store} {index'' memo'' : List ℕ} → Out n to st'' index'' memo'' → n ≡ done → Answered q st index to st'' index''
      go (made_no f) e = absurd (refused_not_done (λ i. omega arith) f e)
      go (made_6 l u s a h f) e = absurd (omega arith)
      go (made_0 l u s a h st'' index'' w) e =
          let x = made_so s a h in
          let to = ((row q).make (held st u)).1 in
          let y : Answers (held st u) x.0 (held st'' w.used, to) = rw w.holds x.1 in
          record {
            before = u;
            found = s;
            passed = (a, h);
            after = w.used;
            left = w.sound;
            continues = y.right.continues;
            known = omega (arith, y.right.known, counted w.sound);
            means = λ m asked. (let z : Answers (held st u) m (held st'' w.used, to) = rw w.holds (made_here s a h m asked) in z.right.means);
            reached = λ r p n. y.reached r (omega (arith, counted s)) (omega (arith, counted w.sound));
          }

  -- What is asked of its answer is one thing: so `means` of `Answered`, with its `found` and `passed`, pins the answer down.
  pub asked_exactly : (u : ℕ) → SoundLent st index u → (row q).known u → (row q).kind
      → (m : Reading → Bool) × (row q).asks (held st u) m × ((m' : Reading → Bool) → (row q).asks (held st u) m' → (ρ : Reading) → m ρ ≡ m' ρ)
  asked_exactly u s a h =
      let z = holds_a_sound_table st index u s in
      let x = something_is_asked (held st u) z q o.0 (knows s a) h in
      (x.0, x.1, λ m' f. one_thing_is_asked (held st u) z q o.0 (knows s a) h x.0 m' x.1 f)

  -- A refusal answers FALSE and leaves the table as it was found.
  pub refused_changes_nothing : (k ≡ done → ⊥) → (id ≡ FALSE) × (st' ≡ st) × (index' ≡ index)
  refused_changes_nothing e = go o.1 e
    where
      go : {n to : ℕ} {st'' : Store} {index'' memo'' : List ℕ} → Out n to st'' index'' memo'' → (n ≡ done → ⊥) → (to ≡ FALSE) × (st'' ≡ st) × (index'' ≡ index)
      go (made_no f) e = (refl, refl, refl)
      go (made_6 l u s a v f) e = (refl, refl, refl)
      go (made_0 l u s a v _ _ h) e = absurd (e refl)

  -- On words that are a sound table of u nodes.
  module _ (u : ℕ) (s : SoundLent st index u) where
    -- Demand 2: after the call, whatever number it tells, the words are a sound table, and each id that was known before is known and says
    -- under every reading what it said before.
    pub call_keeps_older_ids : (u' : ℕ) × SoundLent st' index' u' × ((a : ℕ) → KnownTo u a → KnownTo u' a × ((ρ : Reading) → says (held st' u') ρ a ≡ says (held st u) ρ a))
    call_keeps_older_ids = go o.1
      where
        Kept : Store → List ℕ → Type 0
        Kept st'' index'' = (u' : ℕ) × SoundLent st'' index'' u' × ((a : ℕ) → KnownTo u a → KnownTo u' a × ((ρ : Reading) → says (held st'' u') ρ a ≡ says (held st u) ρ a))

        as_it_was : Kept st index
        as_it_was = (u, s, λ a ka. (ka, λ ρ. refl))

        longer : {st'' : Store} {index'' : List ℕ} → Leaves ((row q).make (held st u)).0 st index st'' index'' → (row q).known u → (row q).kind → Kept st'' index''
        longer {st''} w a h =
            let c : Continues (held st u) (held st'' w.used) = rw w.holds (made_so s a h).1.right.continues in
            (w.used, w.sound, λ b kb. (omega (arith, continues_length c, counted s, counted w.sound), λ ρ. old_ids_say_the_same (held st u) (held st'' w.used) c ρ b (into_held s b kb)))

        go : {n to : ℕ} {st'' : Store} {index'' memo'' : List ℕ} → Out n to st'' index'' memo'' → Kept st'' index''
        go (made_no f) = as_it_was
        go (made_6 l v t a h f) = as_it_was
        go (made_0 l v t a h st'' index'' w) =
            let e = sound_once st index v u t s in
            longer (subst (λ (n : ℕ). Leaves ((row q).make (held st n)).0 st index st'' index'') e w) (subst (row q).known e a) h

    module _ (l : (row q).lent st index memo) (a : (row q).known u) (h : (row q).kind) where
      abbrev makes : Table
      makes = ((row q).make (held st u)).0

      abbrev Roomy : Type 0
      Roomy = Fits (room st.nodes) (length st.children) makes

      -- Where the checks 1 to 4 pass, the number is 0 beside words that hold what the operation makes, or 6 where it does not fit. So it tells
      -- whether there is room in any sense that the first shows and the second denies.
      done_or_full : {P : Type 0} → (Leaves makes st index st' index' → P) → (P → Roomy) → DoneOrNoRoom P k
      done_or_full {P} to back = go o.1 to
        where
          go : {n to : ℕ} {st'' : Store} {index'' memo'' : List ℕ} → Out n to st'' index'' memo'' → (Leaves makes st index st'' index'' → P) → DoneOrNoRoom P n
          go (made_no f) shown = absurd (not_refused l s a h f)
          go (made_6 l' v t a' h' f) shown = inr (refl, λ p. subst (λ (n : ℕ). Fits (room st.nodes) (length st.children) ((row q).make (held st n)).0 → ⊥) (sound_once st index v u t s) f (back p))
          go (made_0 l' v t a' h' st'' index'' w) shown = inl (refl, shown (subst (λ (n : ℕ). Leaves ((row q).make (held st n)).0 st index st'' index'') (sound_once st index v u t s) w))

      module _ (m : Reading → Bool) (asked : (row q).asks (held st u) m) where
        made : Answers (held st u) m ((row q).make (held st u))
        made = made_here s a h m asked

        exactly : Answerable (room st.nodes) (length st.children) (held st u) m ↔ Roomy
        exactly = fits_exactly _ _ _ made (room st.nodes) (length st.children)

        -- Demand 2, "no room" both ways: the number is 0 if some sound table that continues this one within its room holds the answer, and 6 if
        -- none does;
        pub done_or_no_room : DoneOrNoRoom (Answerable (room st.nodes) (length st.children) (held st u) m) k
        done_or_no_room = done_or_full (λ w. exactly.1 (leaves_fits w)) (λ x. exactly.0 x)

        -- and the same of lent words.
        pub done_or_no_lent_room : DoneOrNoRoom (LentAnswer m st index u) k
        done_or_no_lent_room = done_or_full (λ w. left_answer made w) (λ x. exactly.0 (answerable x))

-- Step 6: disjointness beside 0 is yes exactly when no reading makes both true.
pub disjoint_told : (st : Store) (index : List ℕ) (x y : ℕ) {k : ℕ} {b : Bool} → Disjoints st index x y k b → k ≡ done
    → (u : ℕ) × SoundLent st index u × ((b ≡ true) ↔ ((ρ : Reading) → (says (held st u) ρ x && says (held st u) ρ y) ≡ false))
disjoint_told st index x y (reply_no f) e = absurd (refused_not_done (λ i. omega arith) f e)
disjoint_told st index x y (reply_0 l u s a ok) e =
    (u, s, disjoint_exactly (held st u) (holds_a_sound_table st index u s) x y (into_held s x a.0) (into_held s y a.1))

-- The memo is "never believed": whatever it held, and whichever of the allowed lengths it has, a call gives the same number, the same id and the
-- same table.
module _ {lent lent'' : Type 0} (to : lent → lent'') (back : lent'' → lent) (known : ℕ → Type 0) (kind : Type 0) (want : Table → Table × ℕ) (st : Store) (index memo memo'' : List ℕ) where
  with_memo : {k id : ℕ} {st' : Store} {index' memo' : List ℕ} → Makes lent known kind want st index memo k id st' index' memo'
      → (z'' : List ℕ) × Makes lent'' known kind want st index memo'' k id st' index' z''
  with_memo (made_no f) = (memo'', made_no (still f))
    where
      still : {k : ℕ} → Refuses lent known wrong_variable kind st index k → Refuses lent'' known wrong_variable kind st index k
      still (refused_1 f) = refused_1 (λ l. f (back l))
      still (refused_2 l f) = refused_2 (to l) f
      still (refused_3 l u s f) = refused_3 (to l) u s f
      still (refused_last l u s a f) = refused_last (to l) u s a f
  with_memo (made_6 l u s a v f) = (replicate (length memo'') 0, made_6 (to l) u s a v f)
  with_memo (made_0 l u s a v st' index' h) = (replicate (length memo'') 0, made_0 (to l) u s a v st' index' h)

pub memo_never_believed : (q : Call) (st : Store) (index memo memo'' : List ℕ) → ((row q).lent st index memo → (row q).lent st index memo'') → ((row q).lent st index memo'' → (row q).lent st index memo)
    → {k k'' id id'' : ℕ} {st' st'' : Store} {index' index'' z z'' : List ℕ} → Comes q st index memo k id st' index' z → Comes q st index memo'' k'' id'' st'' index'' z''
    → (k ≡ k'') × (id ≡ id'') × (st' ≡ st'') × (index' ≡ index'')
memo_never_believed q st index memo memo'' to back o o'' =
    let w = with_memo to back (row q).known (row q).kind (row q).make st index memo memo'' o.1 in
    let x = makes_once ((row q).lent st index memo'') (row q).known (row q).kind (row q).make st index memo'' w.1 o''.1 in
    (x.0, x.1, x.2, x.3)
