-- A range's variable is one of all, and a range on the line lies on that of its variable. Assumes nothing.
use Prim.Native.Nat.{ℕ, ◌≤◌, ◌<◌}
use native.Mathlib.Omega.{arith}
use borrow.Author.Tests.{lt-ltb}
use Rattle.ranges.specs.Line.{top}
use Rattle.diagram.specs.Table.{variables, first_boolean, top_of}

module _ {v : ℕ} (l : v < first_boolean) where
  pub is_variable : v < variables
  is_variable = omega arith

  pub on_line : {p : ℕ} → p ≤ top → p ≤ top_of v
  on_line h = rw (lt-ltb v first_boolean l) h

pub first_on_line : {v first last : ℕ} → v < first_boolean → first ≤ last → last ≤ top → first ≤ top_of v
first_on_line l e h = on_line l (omega arith)
