use mathlib.Core.Bool.{true, false}
use Rattle.algebra.specs.Conditions.{from_bool}
use Rattle.algebra.proofs.Conditioning.{child_terminal}
use Rattle.conditions.proofs.from_bool.Goals as goal

-- `conditions::from_bool` meets its contract: `create_pair` on TRUE and FALSE. Assumes nothing.
pub create_pair-requires : goal.create_pair-requires
create_pair-requires c = let pre· = c.requires in
    (pre·.0, pre·.1, pre·.2, child_terminal _ _ pre·.2 true, child_terminal _ _ pre·.2 false)

pub returns-clause-makes : goal.returns-clause-makes
unfolding from_bool
returns-clause-makes c = c.create_pair.ensures.makes
