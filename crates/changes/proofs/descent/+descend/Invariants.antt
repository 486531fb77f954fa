use Rattle.making.specs.Working.{stored, SameSlices}
use Rattle.changes.specs.Changed.{Changed, changed}
use Rattle.changes.proofs.Gathering.{Gather}
use Rattle.changes.proofs.Down.{Entered}
use Rattle.changes.proofs.descent.+descend.Given as goal

abbrev pub decreases-descend : goal.decreases-descend
decreases-descend g l = l.ahead

abbrev pub invariant-loop-done : goal.invariant-loop-done
invariant-loop-done g l =
    let at = g.C.Change.at l.change in
    let on = g.C.Change.on l.change in
    record {
      entered : Entered at on l.initial.table.used (stored l.initial.table) l.initial.table.index.now l.initial.memo l.ahead l.fn.id.0 l.u l.a;
      gathered : Gather (changed at on) l.initial.table.used (stored l.initial.table) l.initial.memo l.a l.u (Changed at on) l.table.used (stored l.table) l.table.index.now l.memo l.out l.done;
      same : SameSlices l.initial.table l.table;
    }
