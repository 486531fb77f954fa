-- Going over pieces with an operation, in either order, and making a node of what comes back. Assumes nothing.
use mathlib.Core.Path.{◌≡◌, ◌∙◌}
use mathlib.Core.Bool.{Bool, true, false, cond}
use Prim.Native.Nat.{ℕ, suc, ◌≤◌, ◌<◌}
use native.Mathlib.Omega.{arith}
use native.Mathlib.Decide.{dec_lt}
use lib.Dec.{ltb}
use lib.ListN.{length}
use Rattle.ids.specs.Id.{ref}
use Rattle.diagram.specs.Pieces.{Pieces, last, cut, select}
use Rattle.diagram.specs.Shape.{Each, Rising}
use Rattle.diagram.specs.Table.{variables, top_of, Table, Assignment, value, Continues, same}
use Rattle.diagram.specs.Sound.{Child, Sound}
use Rattle.diagram.proofs.Piecewise.{select_left, select_right, each_select}
use Rattle.diagram.proofs.Continuing.{continues_trans, continues_value, continues_child, continues_kids}
use Rattle.algebra.specs.Conjunction.{walk, walk_back, walk_in, create_over}
use Rattle.algebra.proofs.Made.{Reach, reach_trans, reach_continues, Made}
use Rattle.algebra.proofs.Making.{MadeNode, created}

-- a position from lo on whose child reaches r
pub record Used (lo : ℕ) (t : Table) (e : Pieces ℕ) (r : ℕ) : Type 0 where
  pub spot : ℕ
  pub low : lo ≤ spot
  pub path : Reach t (ref (select e spot)) r

-- what going over pieces e, whose values mean m, has made
pub record Walked {A : Type 0} (t : Table) (u : ℕ) (m : A → Assignment → Bool) (e : Pieces A) (out : Table × Pieces ℕ) : Type 0 where
  pub sound : Sound out.0
  pub continues : Continues t out.0
  pub kids : Each (Child out.0 u) out.1
  pub shape : (lo hi : ℕ) → Rising lo hi e → Rising lo hi out.1
  pub means : (α : Assignment) (p : ℕ) → value out.0 α (select out.1 p) ≡ m (select e p) α
  pub used : (lo hi : ℕ) → Rising lo hi e → (r : ℕ) → length t < r → r ≤ length out.0 → Used lo out.0 out.1 r

first_used : (lo k : ℕ) (t : Table) (c : ℕ) (e : Pieces ℕ) (r : ℕ) → lo < k → Reach t (ref c) r → Used lo t (cut c k e) r
first_used lo k t c e r h x = record { spot = lo; low = omega arith; path = rw (select_left c k e lo h) x }

later_used : (lo k : ℕ) (t : Table) (c : ℕ) (e : Pieces ℕ) (r : ℕ) → lo < k → Used k t e r → Used lo t (cut c k e) r
later_used lo k t c e r h x =
    let l : k ≤ x.spot = x.low in
    record { spot = x.spot; low = omega arith; path = rw (select_right c k e x.spot l) x.path }

used_continues : {t s : Table} (lo u : ℕ) (e : Pieces ℕ) (r : ℕ) → Sound t → Continues t s → Each (Child t u) e → Used lo t e r → Used lo s e r
used_continues {t} {s} lo u e r z g k x = record { spot = x.spot; low = x.low; path = reach_continues z g (each_select (Child t u) e k x.spot).0 x.path }

module _ {A : Type 0} (f : Table → A → Table × ℕ) (t₀ : Table) (u : ℕ) (P : A → Type 0) (m : A → Assignment → Bool)
    (ok : (s : Table) → Sound s → Continues t₀ s → (a : A) → P a → Made s u (m a) (f s a)) where
  one : (t : Table) (a : A) → Made t u (m a) (f t a) → Walked t u m (last a) ((f t a).0, last (f t a).1)
  one t a x = record {
    sound = x.sound;
    continues = x.continues;
    kids = x.child;
    shape = λ lo hi h. h;
    means = λ α p. x.means α;
    used = λ lo hi h r n l. record { spot = lo; low = omega arith; path = x.used r n l };
  }

  pub walk_makes_each : (t : Table) → Sound t → Continues t₀ t → (e : Pieces A) → Each P e → Walked t u m e (walk f t e)
  unfolding walk
  walk_makes_each t z g (last a) h = one t a (ok t z g a h)
  walk_makes_each t z g (cut a k e) h = join (walk_makes_each s x.sound (continues_trans g x.continues) e h.1)
    where
      x : Made t u (m a) (f t a)
      x = ok t z g a h.0

      s : Table
      s = (f t a).0

      c : ℕ
      c = (f t a).1

      join : Walked s u m e (walk f s e) → Walked t u m (cut a k e) ((walk f s e).0, cut c k (walk f s e).1)
      join y = record {
        sound = y.sound;
        continues = continues_trans x.continues y.continues;
        kids = (continues_child y.continues u c x.child, y.kids);
        shape = λ lo hi r. (r.0, r.1, y.shape k hi r.2);
        means = λ α p. at_p α p (ltb p k);
        used = λ lo hi h r n l. new lo hi h r n l (dec_lt (length s) r);
      }
        where
          s' : Table
          s' = (walk f s e).0

          e' : Pieces ℕ
          e' = (walk f s e).1

          new : (lo hi : ℕ) → Rising lo hi (cut a k e) → (r : ℕ) → length t < r → r ≤ length s' → Dec (length s < r) → Used lo s' (cut c k e') r
          new lo hi h r n l (yes q) = later_used lo k s' c e' r h.0 (y.used k hi h.2 r q l)
          new lo hi h r n l (no q) = first_used lo k s' c e' r h.0 (reach_continues x.sound y.continues x.child.0 (x.used r n (omega arith)))

          at_p : (α : Assignment) (p : ℕ) (b : Bool) → value s' α (cond b c (select e' p)) ≡ m (cond b a (select e p)) α
          at_p α p true = continues_value y.continues α c x.child.0 ∙ x.means α
          at_p α p false = y.means α p

  walked_back : (t : Table) → Sound t → Continues t₀ t → (e : Pieces A) → Each P e → Walked t u m e (walk_back f t e)
  unfolding walk_back
  walked_back t z g (last a) h = one t a (ok t z g a h)
  walked_back t z g (cut a k e) h = join (walked_back t z g e h.1)
    where
      s : Table
      s = (walk_back f t e).0

      e' : Pieces ℕ
      e' = (walk_back f t e).1

      join : Walked t u m e (walk_back f t e) → Walked t u m (cut a k e) ((f s a).0, cut (f s a).1 k e')
      join y = record {
        sound = x.sound;
        continues = continues_trans y.continues x.continues;
        kids = (x.child, continues_kids x.continues u e' y.kids);
        shape = λ lo hi r. (r.0, r.1, y.shape k hi r.2);
        means = λ α p. at_p α p (ltb p k);
        used = λ lo hi h r n l. new lo hi h r n l (dec_lt (length s) r);
      }
        where
          x : Made s u (m a) (f s a)
          x = ok s y.sound (continues_trans g y.continues) a h.0

          s' : Table
          s' = (f s a).0

          c : ℕ
          c = (f s a).1

          new : (lo hi : ℕ) → Rising lo hi (cut a k e) → (r : ℕ) → length t < r → r ≤ length s' → Dec (length s < r) → Used lo s' (cut c k e') r
          new lo hi h r n l (yes q) = first_used lo k s' c e' r h.0 (x.used r q l)
          new lo hi h r n l (no q) = later_used lo k s' c e' r h.0 (used_continues k u e' r y.sound x.continues y.kids (y.used k hi h.2 r n (omega arith)))

          at_p : (α : Assignment) (p : ℕ) (b : Bool) → value s' α (cond b c (select e' p)) ≡ m (cond b a (select e p)) α
          at_p α p true = x.means α
          at_p α p false = continues_value x.continues α (select e' p) (each_select (Child s u) e' y.kids p).0 ∙ y.means α p

  walked_in : (low_first : Bool) (t : Table) → Sound t → Continues t₀ t → (e : Pieces A) → Each P e → Walked t u m e (walk_in low_first f t e)
  unfolding walk_in
  walked_in true t z g e h = walked_back t z g e h
  walked_in false t z g e h = walk_makes_each t z g e h

-- the node of a variable v over what an operation f answers for the values of some pieces
module _ {A : Type 0} (t : Table) (z : Sound t) (f : Table → A → Table × ℕ) (v : ℕ) (hv : v < variables) (P : A → Type 0) (m : A → Assignment → Bool)
    (ok : (s : Table) → Sound s → Continues t s → (a : A) → P a → Made s (suc v) (m a) (f s a))
    (e : Pieces A) (rise : Rising 0 (top_of v) e) (each : Each P e) (low_first : Bool) where
  abbrev w : Table × Pieces ℕ
  w = walk_in low_first f t e

  abbrev out : Table × ℕ
  out = create_over v w

  new : Walked t (suc v) m e w → MadeNode w.0 v w.1 out → (r : ℕ) → length t < r → r ≤ length out.0 → Dec (length w.0 < r) → Reach out.0 (ref out.1) r
  new x k r n l (yes h) = k.made.used r h l
  new x k r n l (no h) =
      let i = used_continues 0 (suc v) w.1 r x.sound k.made.continues x.kids (x.used 0 (top_of v) rise r n (omega arith)) in
      reach_trans (k.reach i.spot) i.path

  pub created_over : Made t v (λ α. m (select e (α v)) α) out
  created_over =
      let x = walked_in f t (suc v) P m ok low_first t z same e each in
      let k = created w.0 x.sound v hv w.1 (x.shape 0 (top_of v) rise) x.kids in
      record {
        sound = k.made.sound;
        continues = continues_trans x.continues k.made.continues;
        child = k.made.child;
        means = λ α. k.made.means α ∙ x.means α (α v);
        used = λ r n l. new x k r n l (dec_lt (length w.0) r);
      }
