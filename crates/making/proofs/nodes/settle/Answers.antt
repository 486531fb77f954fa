use mathlib.Core.Path.{refl}
use native.Mathlib.Omega.{arith}
use Rattle.making.proofs.Two.{two_buildable, array_of_two, array_as_two}
use Rattle.making.proofs.Creating.{dropped}
use Rattle.making.proofs.nodes.settle.Goals as goal

-- `nodes::settle` meets its contract: the child that all edges lead to, the node of two, or that of the array. Assumes nothing.
pub returns-then-es-eq1-clause-makes : goal.returns-then-es-eq1-clause-makes
returns-then-es-eq1-clause-makes c = dropped c.requires.0 c.args.v c.args.es (omega arith) _ refl

pub find_or_add-requires : goal.find_or_add-requires
find_or_add-requires c = (c.requires.0, two_buildable _ _ _ (array_of_two c.args.es c.if-es-eq2.true) c.requires.1.known c.requires.1.reduced c.requires.1.kids, omega arith)

pub returns-then-es-eq2-clause-makes : goal.returns-then-es-eq2-clause-makes
returns-then-es-eq2-clause-makes c = rw (array_as_two c.args.es c.if-es-eq2.true) at c.find_or_add.ensures.makes
