use Rattle.conditions.proofs.Shapes.{few_stored}
use Rattle.conditions.proofs.few_edges.Goals as goal

-- `conditions::few_edges` meets its contract: three stores. Assumes nothing.
pub returns : goal.returns
returns c = few_stored c.new-es.result.list c.args.a c.args.b c.args.c c.new-es.ensures.0 c.args.len c.requires.0 c.requires.1
