use Rattle.table.specs.Layout.{store}
use Rattle.making.specs.Seeking.{far}
use Rattle.making.proofs.Walked.{Going}
use Rattle.making.proofs.chain.seek.Given as goal

-- `chain::seek` meets its contract: the walk of crate `chains` (proofs/Found). Assumes nothing.
abbrev pub invariant-loop-at : goal.invariant-loop-at
invariant-loop-at l = Going (store l.table.nodes.now l.table.children.now l.table.cuts.now) l.table.index.now l.h l.f l.from l.before l.at

abbrev pub decreases-loop-at : goal.decreases-loop-at
decreases-loop-at l = far (store l.table.nodes.now l.table.children.now l.table.cuts.now) l.at
