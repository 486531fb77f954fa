use mathlib.Core.Path.{refl}
use native.Mathlib.Omega.{arith}
use Rattle.clipping.proofs.Closing.{closed_over, closed_in}
use Rattle.clipping.proofs.closed.Goals as goal

pub returns-then-n-ge-MOST_EDGES : goal.returns-then-n-ge-MOST_EDGES
returns-then-n-ge-MOST_EDGES c = record { shut = λ h. closed_over c.requires c.slot_for-n.ensures refl (omega arith); whole = λ h. absurd (omega arith) }

pub returns : goal.returns
returns c = rw c.new.ensures (record { shut = λ h. closed_in c.requires c.slot_for-n.ensures refl _ refl (omega arith); whole = λ h. absurd (omega arith) })
