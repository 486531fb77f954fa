use native.Mathlib.Omega.{arith}
use mathlib.Core.Path.{refl, sym, ◌∙◌}
use borrow.Author.Tests.{eqb-true, eqb-false}
use Rattle.making.proofs.Two.{pair_of, pair_buildable, pair_made, pair_dropped}
use Rattle.making.proofs.Creating.{kept}
use Rattle.making.proofs.nodes.create_pair.Goals as goal

-- `nodes::create_pair` meets its contract: the child where both agree, else the node of the two edges. Assumes nothing.
pub returns-then-eq-clause-makes : goal.returns-then-eq-clause-makes
returns-then-eq-clause-makes c = kept c.requires.0 c.args.v (pair_of c.args.high c.args.low) refl (pair_dropped c.args.high c.args.low _ c.args.v (eqb-true _ _ (sym c.eq.ensures ∙ c.if-eq.true)))

pub find_or_add-requires : goal.find_or_add-requires
find_or_add-requires c = rw (c.new.ensures, c.new-2.ensures) (c.requires.0, pair_buildable c.args.high c.args.low _ c.requires.1 c.requires.2 c.requires.3 c.requires.4 (eqb-false _ _ (sym c.eq.ensures ∙ c.if-eq.false)), omega arith)

pub returns-clause-makes : goal.returns-clause-makes
returns-clause-makes c = rw (c.new.ensures, c.new-2.ensures, pair_made c.args.high c.args.low _ c.args.v (eqb-false _ _ (sym c.eq.ensures ∙ c.if-eq.false))) at c.find_or_add.ensures.makes
