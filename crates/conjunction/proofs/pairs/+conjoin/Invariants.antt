use mathlib.Core.Bool.{true}
use Prim.Native.Nat.{◌+◌, ◌*◌}
use Rattle.making.specs.Working.{stored, SameSlices}
use Rattle.conjunction.proofs.Asking.{conj_walk}
use Rattle.walks.proofs.Ranging.{Loop, edges_still_ahead}
use Rattle.conjunction.proofs.pairs.+conjoin.Given as goal

abbrev pub decreases-apply : goal.decreases-apply
decreases-apply l = l.ahead * 3 + 2

abbrev pub decreases-apply_ranges : goal.decreases-apply_ranges
decreases-apply_ranges l = l.ahead * 3 + 1

abbrev pub decreases-conjoin : goal.decreases-conjoin
decreases-conjoin l = l.ahead * 3

abbrev pub invariant-apply_ranges-loop-more : goal.invariant-apply_ranges-loop-more
invariant-apply_ranges-loop-more l = Loop (conj_walk l.v l.ahead) l.initial.table.used (stored l.initial.table) l.initial.memo l.a l.b l.table.used (stored l.table) l.table.index.now l.memo l.out l.last l.out.len l.i l.j true l.more × SameSlices l.initial.table l.table

abbrev pub decreases-apply_ranges-loop-more : goal.decreases-apply_ranges-loop-more
decreases-apply_ranges-loop-more l = edges_still_ahead l.a l.b l.i l.j l.more
