use Prim.Native.Nat.{ℕ}
use Rattle.ids.specs.Id.{sign}
use Rattle.table.specs.Layout.{store}
use Rattle.table.specs.Lent.{SoundLent}
use Rattle.making.specs.Seeking.{rest_in, far, Sought}
use Rattle.making.proofs.chain.find.Given as goal

-- `chain::find` meets its contract: candidates, until one is the node or its place is known. Assumes nothing.
abbrev pub invariant-loop-s : goal.invariant-loop-s
invariant-loop-s g l = (u : ℕ) → SoundLent (store l.table.nodes.now l.table.children.now l.table.cuts.now) l.table.index.now u → Sought (store l.table.nodes.now l.table.children.now l.table.cuts.now) l.table.index.now u l.h l.f (rest_in l.v (sign l.lead.0) (g.E.EdgeList.edges l.es)) l.s

abbrev pub decreases-loop-s : goal.decreases-loop-s
decreases-loop-s g l = far (store l.table.nodes.now l.table.children.now l.table.cuts.now) l.s.at
