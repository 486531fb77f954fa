use mathlib.Core.Path.{◌≡◌}
use mathlib.Core.Bool.{true}
use Prim.Native.Nat.{◌+◌, ◌-◌, ◌*◌}
use Rattle.table.specs.Lending.{store_in}
use Rattle.disjointness.specs.Asking.{whole}
use Rattle.disjointness.proofs.Walks.{Walked, Turned, Beside}
use Rattle.disjointness.proofs.+disjoint.Given as goal

abbrev pub decreases-booleans_disjoint : goal.decreases-booleans_disjoint
decreases-booleans_disjoint l = l.ahead * 4 + 2

abbrev pub decreases-ids_disjoint : goal.decreases-ids_disjoint
decreases-ids_disjoint l = l.ahead * 4 + 1

abbrev pub decreases-nodes_disjoint : goal.decreases-nodes_disjoint
decreases-nodes_disjoint l = l.ahead * 4

abbrev pub decreases-ranges_disjoint : goal.decreases-ranges_disjoint
decreases-ranges_disjoint l = l.ahead * 4 + 2

abbrev pub decreases-sides_disjoint : goal.decreases-sides_disjoint
decreases-sides_disjoint l = l.ahead * 4 + 3

abbrev pub invariant-ranges_disjoint-loop-j : goal.invariant-ranges_disjoint-loop-j
invariant-ranges_disjoint-loop-j l = (l.answer ≡ true) × Beside (store_in l.table) l.fn.noted l.noted l.fn.rest l.rest (Walked l.ahead (whole (store_in l.table)) l.table.children.now l.table.cuts.now l.a l.b l.i l.j)

abbrev pub decreases-ranges_disjoint-loop-j : goal.decreases-ranges_disjoint-loop-j
decreases-ranges_disjoint-loop-j l = l.b.count - l.j

abbrev pub invariant-ranges_disjoint-left : goal.invariant-ranges_disjoint-left
invariant-ranges_disjoint-left l = (l.answer ≡ true) × Beside (store_in l.table) l.fn.noted l.noted l.fn.rest l.rest (Turned l.ahead (whole (store_in l.table)) l.table.children.now l.table.cuts.now l.a l.b l.i l.j)
