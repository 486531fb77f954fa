use native.Mathlib.Omega.{arith}
use Rattle.making.proofs.Spliced.{spliced_some}
use Rattle.making.proofs.chain.splice.Goals as goal

pub returns-then-q-gt0 : goal.returns-then-q-gt0
returns-then-q-gt0 c = spliced_some c.args.index.now c.args.rooms c.args.n c.args.bucket c.args.p c.args.q _ _ _ _ _ c.requires.0 c.requires.2 c.requires.3 c.requires.4 c.requires.5 c.lead_from-at.ensures.0 (omega arith)
