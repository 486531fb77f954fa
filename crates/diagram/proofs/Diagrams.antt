-- Laws of ordered diagrams: what they say and reach; a sound table is one. Assumes nothing.
use mathlib.Core.Path.{◌≡◌, refl, sym, ◌∙◌, ap}
use mathlib.Core.Bool.{Bool, true, false, ◌||◌, or-true, false≢true}
use mathlib.Core.List.{List, [], ◌∷◌, Memᴰ}
use mathlib.Core.Logic.{◌⊎◌, inl, inr}
use Prim.Native.Nat.{ℕ, zero, suc, ◌+◌, ◌≤◌, ◌<◌}
use native.Mathlib.Omega.{arith}
use native.Mathlib.Decide.{ℕ_discrete}
use lib.Dec.{eqb}
use lib.ListN.{length}
use borrow.Author.Tests.{eqb-true, eq-eqb, le-ltb}
use Rattle.ids.specs.Id.{sign, ref, under}
use Rattle.ids.proofs.Signs.{ref_under}
use Rattle.diagram.specs.Pieces.{select}
use Rattle.diagram.specs.Table.{first_boolean, variables, top_of, Node, Table, at, Assignment, flipped, signed, value}
use Rattle.diagram.specs.Cofactor.{upd, Within}
use Rattle.diagram.specs.Sound.{Known, Child, Sound}
use Rattle.diagram.specs.Room.{width}
use Rattle.diagram.specs.Ordered.{Run, Diagram, holds, holders, Ordered, Tells, terminal, node, Path, here, via, Reached, diagram_of}
use Rattle.diagram.proofs.Either.{either_true}
use Rattle.diagram.proofs.Lookup.{truth, value_truth, at_end, truth_end, signed_under}
use Rattle.diagram.proofs.Piecewise.{reduced_rising}
use Rattle.diagram.proofs.Facts.{Facts, facts_at}
use Rattle.diagram.proofs.Cofactors.{upd_same, upd_later, upd_within}
use Rattle.diagram.proofs.Counting.{down, filter, mem_down, down_mem, mem_filter, filter_mem, once_filter, once_down}
use Rattle.diagram.proofs.Runs.{child_at, Held, held, child_held, length_runs, holders_runs, child_runs, run_each, count_most}

-- the variable of a ref; the terminal's is later than each
abbrev pub var_of : Diagram → ℕ → ℕ
var_of d zero = variables
var_of d (suc n) = d.var (suc n)

pub var_node : (d : Diagram) (r : ℕ) → 0 < r → var_of d r ≡ d.var r
var_node d zero h = absurd (omega arith)
var_node d (suc n) h = refl

-- an id of the diagram whose variable is u or later
abbrev pub Later : Diagram → ℕ → ℕ → Type 0
Later d u id = (ref id ≤ d.size) × (u ≤ var_of d (ref id))

-- what a ref says, going down n nodes at most: as many as there are variables are enough
unfoldable pub follow : ℕ → Diagram → Assignment → ℕ → Bool
follow zero d α r = true
follow (suc n) d α zero = true
follow (suc n) d α (suc r) =
    let c = child_at (d.runs (suc r)) (α (d.var (suc r))) in
    signed c (follow n d α (ref c))

-- and an id, computed
unfoldable pub tells : Diagram → Assignment → ℕ → Bool
tells d α id = signed id (follow variables d α (ref id))

-- whether a path of at most n edges leads from r to s
abbrev pub any : (Run → Bool) → List Run → Bool
any f [] = false
any f (x ∷ xs) = f x || any f xs

unfoldable pub reaches : ℕ → Diagram → ℕ → ℕ → Bool
reaches zero d r s = eqb r s
reaches (suc n) d zero s = eqb 0 s
reaches (suc n) d (suc r) s = eqb (suc r) s || any (λ x. reaches n d (ref x.child) s) (d.runs (suc r))

-- paths
pub path_trans : {d : Diagram} {r s u : ℕ} → Path d r s → Path d s u → Path d r u
path_trans here y = y
path_trans (via x h m p) y = via x h m (path_trans p y)

any_mem : (f : Run → Bool) (xs : List Run) (x : Run) → Memᴰ x xs → f x ≡ true → any f xs ≡ true
any_mem f [] x x4 h = elim x4 [ ]
any_mem f (y ∷ ys) x (Memᴰ.head e) h = rw (← e, h)
any_mem f (y ∷ ys) x (Memᴰ.tail m) h = rw (any_mem f ys x m h) (or-true (f y))

record Found (f : Run → Bool) (xs : List Run) : Type 0 where
  run : Run
  there : Memᴰ run xs
  yes_it : f run ≡ true

any_found : (f : Run → Bool) (xs : List Run) → any f xs ≡ true → Found f xs
any_found f [] h = absurd (false≢true h)
any_found f (y ∷ ys) h = go (f y) refl h (any_found f ys)
  where
    go : (b : Bool) → f y ≡ b → (b || any f ys) ≡ true → (any f ys ≡ true → Found f ys) → Found f (y ∷ ys)
    go true e h rec = record { run = y; there = Memᴰ.head refl; yes_it = e }
    go false e h rec = let i = rec h in record { run = i.run; there = Memᴰ.tail i.there; yes_it = i.yes_it }

-- the test of reaching finds a path,
pub reaches_path : (n : ℕ) (d : Diagram) (r s : ℕ) → reaches n d r s ≡ true → Path d r s
unfolding reaches
reaches_path zero d r s h = rw (eqb-true r s h) here
reaches_path (suc n) d zero s h = rw (← (eqb-true 0 s h)) here
reaches_path (suc n) d (suc r) s h = go (either_true (eqb (suc r) s) (any (λ x. reaches n d (ref x.child) s) (d.runs (suc r))) h) (λ y. reaches_path n d y s)
  where
    go : (eqb (suc r) s ≡ true) ⊎ (any (λ x. reaches n d (ref x.child) s) (d.runs (suc r)) ≡ true) → ((y : ℕ) → reaches n d y s ≡ true → Path d y s) → Path d (suc r) s
    go (inl e) rec = rw (← (eqb-true (suc r) s e)) here
    go (inr e) rec = let i = any_found (λ x. reaches n d (ref x.child) s) (d.runs (suc r)) e in via {r = suc r} i.run (omega arith) i.there (rec (ref i.run.child) i.yes_it)

module _ (d : Diagram) (o : Ordered d) where
  -- an edge leads later
  edge_later : (r : ℕ) → 0 < r → r ≤ d.size → (x : Run) → Memᴰ x (d.runs r) → Later d (suc (var_of d r)) x.child
  edge_later r h l x m = ((o r h l).closed x m, rw (var_node d r h) (go (ref x.child) refl))
    where
      go : (q : ℕ) → ref x.child ≡ q → d.var r < var_of d q
      go zero e = (o r h l).known
      go (suc q) e = rw e at ((o r h l).later x m (omega arith))

  known_var : (r : ℕ) → 0 < r → r ≤ d.size → var_of d r < variables
  known_var r h l = rw (var_node d r h) (o r h l).known

  covered : (r p : ℕ) → 0 < r → r ≤ d.size → p ≤ top_of (var_of d r) → holders (d.runs r) p ≡ 1
  covered r p h l tp = (o r h l).cover p (rw (var_node d r h) at tp)

  -- and finds every path
  pub path_reaches : {r s : ℕ} → Path d r s → (n : ℕ) → r ≤ d.size → variables ≤ n + var_of d r → reaches n d r s ≡ true
  unfolding reaches
  path_reaches (here {r = r}) zero l k = eq-eqb r r refl
  path_reaches (here {r = zero}) (suc n) l k = refl
  path_reaches (here {r = suc r}) (suc n) l k = rw (eq-eqb (suc r) (suc r) refl)
  path_reaches (via {r = r} {s = s} x h i p) zero l k = absurd (omega (arith, known_var r h l))
  path_reaches (via {r = zero} {s = s} x h i p) (suc n) l k = absurd (omega arith)
  path_reaches (via {r = suc m} {s = s} x h i p) (suc n) l k =
      let y = edge_later (suc m) h l x i in
      rw (any_mem (λ z. reaches n d (ref z.child) s) (d.runs (suc m)) x i (path_reaches p n y.0 (omega (arith, y.1)))) (or-true (eqb (suc m) s))

  -- what a path leads to is of the diagram
  pub path_inside : {r s : ℕ} → Path d r s → r ≤ d.size → s ≤ d.size
  path_inside here l = l
  path_inside (via {r = r} x h i p) l = path_inside p ((o r h l).closed x i)

  -- so the nodes that an id reaches have a list
  pub reached : (id : ℕ) → List ℕ
  reached id = filter (reaches variables d (ref id)) (down d.size)

  pub reached_listed : (id : ℕ) → ref id ≤ d.size → Reached d id (reached id)
  unfolding reached
  reached_listed id k = record {
    each = λ r. (
      λ m. let i = filter_mem (reaches variables d (ref id)) (down d.size) r m in ((down_mem d.size r i.0).0, reaches_path variables d (ref id) r i.1),
      λ p. mem_filter (reaches variables d (ref id)) (down d.size) r (mem_down d.size r p.0 (path_inside p.1 k)) (path_reaches p.1 variables k (omega arith)),
    );
    once = once_filter (reaches variables d (ref id)) (down d.size) (once_down d.size);
  }

  -- the child at a position
  module _ (r p : ℕ) (h : 0 < r) (l : r ≤ d.size) (tp : p ≤ top_of (var_of d r)) where
    pub held_at : Held (d.runs r) p
    held_at = held (d.runs r) p 0 (covered r p h l tp)

    pub child_run : (x : Run) → Memᴰ x (d.runs r) → holds x p ≡ true → child_at (d.runs r) p ≡ x.child
    child_run = child_held (d.runs r) p (covered r p h l tp)

    pub child_later : Later d (suc (var_of d r)) (child_at (d.runs r) p)
    child_later = rw (child_run held_at.run held_at.there held_at.holding) (edge_later r h l held_at.run held_at.there)

  pub child_path : (r p : ℕ) → 0 < r → r ≤ d.size → p ≤ top_of (var_of d r) → Path d r (ref (child_at (d.runs r) p))
  child_path r p h l tp =
      let i = held_at r p h l tp in
      rw (child_run r p h l tp i.run i.there i.holding) (via i.run h i.there here)

  -- as many steps as there are variables ahead are enough
  enough : (n m : ℕ) (α : Assignment) → Within α → (r : ℕ) → r ≤ d.size → variables ≤ n + var_of d r → variables ≤ m + var_of d r → follow n d α r ≡ follow m d α r
  unfolding follow
  enough zero zero α w r l hn hm = refl
  enough zero (suc m) α w zero l hn hm = refl
  enough zero (suc m) α w (suc r) l hn hm = absurd (omega (arith, (o (suc r) (omega arith) l).known))
  enough (suc n) zero α w zero l hn hm = refl
  enough (suc n) zero α w (suc r) l hn hm = absurd (omega (arith, (o (suc r) (omega arith) l).known))
  enough (suc n) (suc m) α w zero l hn hm = refl
  enough (suc n) (suc m) α w (suc r) l hn hm =
      let v = d.var (suc r) in
      let c = child_at (d.runs (suc r)) (α v) in
      let k = child_later (suc r) (α v) (omega arith) l (w v) in
      ap (signed c) (enough n m α w (ref c) k.0 (omega (arith, k.1)) (omega (arith, k.1)))

  follow_node : (α : Assignment) → Within α → (r : ℕ) → 0 < r → r ≤ d.size → follow variables d α r ≡ tells d α (child_at (d.runs r) (α (var_of d r)))
  unfolding follow tells
  follow_node α w zero h l = absurd (omega arith)
  follow_node α w (suc r) h l =
      let v = d.var (suc r) in
      let c = child_at (d.runs (suc r)) (α v) in
      let k = child_later (suc r) (α v) (omega arith) l (w v) in
      ap (signed c) (enough 63 variables α w (ref c) k.0 (omega (arith, k.1)) (omega arith))

  follow_agree : (n u : ℕ) (α β : Assignment) → Within β → ((w : ℕ) → u ≤ w → α w ≡ β w) → (r : ℕ) → r ≤ d.size → u ≤ var_of d r → follow n d α r ≡ follow n d β r
  unfolding follow
  follow_agree zero u α β w h r l hu = refl
  follow_agree (suc n) u α β w h zero l hu = refl
  follow_agree (suc n) u α β w h (suc r) l hu =
      let v = d.var (suc r) in
      let c = child_at (d.runs (suc r)) (β v) in
      let k = child_later (suc r) (β v) (omega arith) l (w v) in
      rw (h v hu) (ap (signed c) (follow_agree n u α β w h (ref c) k.0 (omega (arith, k.1))))

  pub tells_agree : (u : ℕ) (α β : Assignment) → Within β → ((w : ℕ) → u ≤ w → α w ≡ β w) → (id : ℕ) → Later d u id → tells d α id ≡ tells d β id
  unfolding tells
  tells_agree u α β w h id k = ap (signed id) (follow_agree variables u α β w h (ref id) k.0 k.1)

  pub tells_under : (α : Assignment) (s id : ℕ) → tells d α (under s id) ≡ flipped s (tells d α id)
  unfolding tells
  tells_under α s id = signed_under (follow variables d α) s id

  -- the child of an id at a position of its variable
  abbrev pub kid : ℕ → ℕ → ℕ
  kid id p = under (sign id) (child_at (d.runs (ref id)) p)

  module _ (id p : ℕ) (h : 0 < ref id) (l : ref id ≤ d.size) (tp : p ≤ top_of (var_of d (ref id))) where
    pub kid_later : Later d (suc (var_of d (ref id))) (kid id p)
    kid_later = rw (ref_under (sign id) (child_at (d.runs (ref id)) p)) (child_later (ref id) p h l tp)

    pub kid_path : Path d (ref id) (ref (kid id p))
    kid_path = rw (ref_under (sign id) (child_at (d.runs (ref id)) p)) (child_path (ref id) p h l tp)

    -- with its variable at a position, an id says what its child there says
    pub tells_kid : (α : Assignment) → Within α → tells d (upd α (var_of d (ref id)) p) id ≡ tells d α (kid id p)
    unfolding tells
    tells_kid α w =
        let v = var_of d (ref id) in
        let c = child_at (d.runs (ref id)) p in
        ap (signed id) (follow_node (upd α v p) (upd_within α v p w tp) (ref id) h l ∙ ap (λ (q : ℕ). tells d (upd α v p) (child_at (d.runs (ref id)) q)) (upd_same α v p))
        ∙ sym (tells_under (upd α v p) (sign id) c) ∙ tells_agree (suc v) (upd α v p) α w (upd_later α v p) (kid id p) kid_later

  -- what an id says, computed: it says that, and nothing else
  tells_terminal : (α : Assignment) (id : ℕ) → ref id ≡ 0 → tells d α id ≡ signed id true
  unfolding tells follow
  tells_terminal α id e = rw e

  tells_edge : (α : Assignment) → Within α → (id : ℕ) → 0 < ref id → ref id ≤ d.size → (x : Run) → Memᴰ x (d.runs (ref id)) → holds x (α (d.var (ref id))) ≡ true
      → tells d α id ≡ signed id (tells d α x.child)
  unfolding tells
  tells_edge α w id h l x m hp =
      let v = var_node d (ref id) h in
      ap (signed id) (follow_node α w (ref id) h l ∙ ap (tells d α) (child_run (ref id) (α (var_of d (ref id))) h l (w (var_of d (ref id))) x m (rw v hp)))

  pub tells_is : (α : Assignment) → Within α → {id : ℕ} {b : Bool} → Tells d α id b → ref id ≤ d.size → tells d α id ≡ b
  tells_is α w (terminal {id = id} e) l = tells_terminal α id e
  tells_is α w (node {id = id} x h m hp y) l = tells_edge α w id h l x m hp ∙ ap (signed id) (tells_is α w y ((o (ref id) h l).closed x m))

  told : (n : ℕ) (α : Assignment) → Within α → (id : ℕ) → ref id ≤ d.size → variables ≤ n + var_of d (ref id) → Tells d α id (tells d α id)
  told zero α w id l k = go (ℕ_discrete (ref id) 0)
    where
      go : Dec (ref id ≡ 0) → Tells d α id (tells d α id)
      go (yes e) = rw (tells_terminal α id e) (terminal e)
      go (no e) = absurd (omega (arith, known_var (ref id) (omega arith) l))
  told (suc n) α w id l k = go (ℕ_discrete (ref id) 0) (λ c. told n α w c)
    where
      go : Dec (ref id ≡ 0) → ((c : ℕ) → ref c ≤ d.size → variables ≤ n + var_of d (ref c) → Tells d α c (tells d α c)) → Tells d α id (tells d α id)
      go (yes e) rec = rw (tells_terminal α id e) (terminal e)
      go (no e) rec =
          let h : 0 < ref id = omega arith in
          let i = held_at (ref id) (α (d.var (ref id))) h l (rw (var_node d (ref id) h) (w (d.var (ref id)))) in
          let y = edge_later (ref id) h l i.run i.there in
          rw (tells_edge α w id h l i.run i.there i.holding) (node i.run h i.there i.holding (rec i.run.child y.0 (omega (arith, y.1))))

  pub tells_told : (α : Assignment) → Within α → (id : ℕ) → ref id ≤ d.size → Tells d α id (tells d α id)
  tells_told α w id l = told variables α w id l (omega arith)

-- a sound table as a diagram
pub var_of_lem : (t : Table) (r : ℕ) → var_of (diagram_of t) r ≡ (at t r).var
var_of_lem t zero = sym (ap (λ (m : Node). m.var) (at_end t))
var_of_lem t (suc r) = refl

pub width_runs : (t : Table) (r : ℕ) → length ((diagram_of t).runs r) ≡ width t r
width_runs t r = length_runs 0 (top_of (at t r).var) (at t r).edges

pub sound_ordered : (t : Table) → Sound t → Ordered (diagram_of t)
sound_ordered t z r h l = record {
  known = f.known;
  closed = λ x m. (lower x m).0;
  later = λ x m q. (lower x m).1;
  cover = λ p h. holders_runs 0 (top_of nd.var) nd.edges p (reduced_rising 0 (top_of nd.var) nd.edges f.reduced) (omega arith) h;
  pair = λ h. omega (arith, length_runs 0 (top_of nd.var) nd.edges, f.many, rw (le-ltb nd.var first_boolean h) at (count_most 0 (top_of nd.var) nd.edges f.reduced));
}
  where
    nd : Node
    nd = at t r

    f : Facts t r nd
    f = facts_at t z r h l

    lower : (x : Run) → Memᴰ x ((diagram_of t).runs r) → Child t (suc nd.var) x.child
    lower x m = run_each (Child t (suc nd.var)) 0 (top_of nd.var) nd.edges f.kids x m

-- it says as a diagram what it says as a table
follow_truth : (t : Table) → Sound t → (n : ℕ) (α : Assignment) → Within α → (r : ℕ) → r ≤ length t → variables ≤ n + (at t r).var → follow n (diagram_of t) α r ≡ truth t α r
unfolding follow
follow_truth t z zero α w zero l h = sym (truth_end t α)
follow_truth t z (suc n) α w zero l h = sym (truth_end t α)
follow_truth t z zero α w (suc r) l h = absurd (omega (arith, (facts_at t z (suc r) (omega arith) l).known))
follow_truth t z (suc n) α w (suc r) l h =
    let f = facts_at t z (suc r) (omega arith) l in
    let nd = at t (suc r) in
    let p = α nd.var in
    let e = child_runs 0 (top_of nd.var) nd.edges p (reduced_rising 0 (top_of nd.var) nd.edges f.reduced) (omega arith) (w nd.var) in
    let k = child_later (diagram_of t) (sound_ordered t z) (suc r) p (omega arith) l (w nd.var) in
    let c = select nd.edges p in
    let kc : Later (diagram_of t) (suc nd.var) c = rw e at k in
    rw e (ap (signed c) (follow_truth t z n α w (ref c) kc.0 (omega (arith, kc.1, var_of_lem t (ref c))))) ∙ sym (value_truth t α c) ∙ sym (f.truth_is α)

pub tells_value : (t : Table) → Sound t → (α : Assignment) → Within α → (id : ℕ) → Known t id → tells (diagram_of t) α id ≡ value t α id
unfolding tells
tells_value t z α w id l = ap (signed id) (follow_truth t z variables α w (ref id) l (omega arith)) ∙ sym (value_truth t α id)
