-- The edges of widening as the code makes them. Document 01, step 9. Assumes nothing.
use Rattle.std.specs.Prelude.{◌≡◌, Bool, true, false, [], Result, Ok, Err, ℕ, zero, suc, ◌+◌, ◌-◌, ◌≤◌, ◌<◌, length}
use Rattle.ids.specs.Id.{FALSE}
use Rattle.diagram.specs.Pieces.{Pieces, last, cut}
use Rattle.diagram.specs.Shape.{count}
use Rattle.diagram.specs.Table.{most_edges}
use Rattle.algebra.specs.Overlay.{merge}
use Rattle.making.specs.declared.edges.Edges as built
use Rattle.making.specs.Building.{Building, child_in, cut_in, pieces_of}
use Rattle.views.specs.Seeing.{beyond}
use Rattle.making.specs.declared.room.NoRoom.{NoRoom}

-- What the code answers: edges, or that there would be a 65th. Beside that no edges are looked at.
pub record Clip : Type 0 where
  pub ok : Bool
  pub edges : built.Edges

abbrev pub clip : Result built.Edges NoRoom → Clip
clip (Ok es) = record { ok = true; edges = es }
clip (Err e) = record { ok = false; edges = record { list = []; len = 0 } }

-- Merged edges, at most 64; or that there are more.
pub record Clips (want : Pieces ℕ) (r : Clip) : Type 0 where
  pub built : r.ok ≡ true → Building r.edges × (pieces_of r.edges ≡ merge want)
  pub over : r.ok ≡ false → most_edges < count (merge want)

-- Edges gathered in the first slots, at least one, no two neighbours alike, the last one to the child `final`.
pub record Gathered (out : built.Edges) (len final : ℕ) : Type 0 where
  pub size : length out.list ≡ most_edges
  pub some : 1 ≤ len
  pub most : len ≤ most_edges
  pub last_is : final ≡ child_in out (len - 1)
  pub apart : (i : ℕ) → i + 1 < len → child_in out i ≡ child_in out (i + 1) → ⊥

-- The first n of some edges, by their children and cuts, and then a rest.
unfoldable pub leading : (ℕ → ℕ) → (ℕ → ℕ) → ℕ → Pieces ℕ → Pieces ℕ
leading c k zero r = r
leading c k (suc n) r = leading c k n (cut (c n) (k n) r)

-- Gathered edges with FALSE after them, or, where they go on past each position, with nothing.
pub record Closes (out : built.Edges) (len end : ℕ) (r : Clip) : Type 0 where
  pub shut : end < beyond → Clips (leading (child_in out) (cut_in out) len (last FALSE)) r
  pub whole : beyond ≤ end → r ≡ record { ok = true; edges = record { list = out.list; len = len } }
