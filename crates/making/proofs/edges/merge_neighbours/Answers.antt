use mathlib.Core.Path.{refl}
use native.Mathlib.Omega.{arith}
use Rattle.making.proofs.Merged.{merging_none, merging_next}
use Rattle.making.proofs.edges.merge_neighbours.Goals as goal

pub loop-j-init : goal.loop-j-init
loop-j-init c = merging_none c.requires _

pub loop-j-preserved : goal.loop-j-preserved
loop-j-preserved c = rw c.new.ensures (merging_next c.requires c.loop-j.invariant (omega arith) _ refl refl c.slot_for-n.ensures)
