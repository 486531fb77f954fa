-- `ranges::spans::Range::is_empty` meets its contract. Assumes nothing.
use Rattle.ranges.proofs.Holds.{emptiness}
use Rattle.ranges.proofs.spans.Range.is_empty.Statement.{statement}
use Rattle.ranges.proofs.spans.Range.is_empty.Tie as tie

returns : tie.Need-returns
returns c = emptiness c.before.args.self

pub is_empty_spec : {M : Type 1} → statement M
is_empty_spec = tie.close (tie.spec returns)
