use native.Mathlib.Omega.{arith}
use Rattle.disjointness.proofs.Whole.{zeroed_asked}
use Rattle.disjointness.proofs.noted_disjoint.Goals as goal

-- `noted_disjoint` meets its contract: its walk goes to the end. Assumes nothing.
pub ids_disjoint-requires : goal.ids_disjoint-requires
ids_disjoint-requires c = zeroed_asked 512 (omega arith) c.requires.0 c.requires.1 c.requires.2
