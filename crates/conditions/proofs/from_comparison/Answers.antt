use mathlib.Core.Path.{refl}
use Rattle.std.proofs.lemmas.Result.{err_from_is_err_and}
use Rattle.conditions.proofs.Wanted.{key_handed, inside_wanted, outside_wanted, full_wanted}
use Rattle.conditions.proofs.from_comparison.Goals as goal

-- `conditions::from_comparison` meets its contract. Assumes nothing.
pub returns-in_err-id-clause-makes : goal.returns-in_err-id-clause-makes
returns-in_err-id-clause-makes c = rw (err_from_is_err_and c.from_residual.result c.from_residual.ensures.1).1 (full_wanted _ _ (key_handed c.ranges.key c.from_comparison-compared.ensures) c.in_err-id.ensures.makes refl)

pub returns-then-compared-clause-makes : goal.returns-then-compared-clause-makes
returns-then-compared-clause-makes c = outside_wanted _ _ (key_handed c.ranges.key c.from_comparison-compared.ensures) c.in_ok-id.ensures.makes c.if-compared.true refl _ c.not.ensures

pub returns-else-compared-clause-makes : goal.returns-else-compared-clause-makes
returns-else-compared-clause-makes c = inside_wanted _ _ (key_handed c.ranges.key c.from_comparison-compared.ensures) c.in_ok-id.ensures.makes c.if-compared.false
