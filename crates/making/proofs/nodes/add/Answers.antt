use Rattle.making.proofs.Adding.{put_edges_asks, enter_asks, added}
use Rattle.making.proofs.nodes.add.Goals as goal

-- `nodes::add` meets its contract: the edges, the record and its place in the index, written behind the used ones. Assumes nothing.
pub put_edges-requires : goal.put_edges-requires
put_edges-requires g c = put_edges_asks c.requires

pub enter-table-requires : goal.enter-table-requires
enter-table-requires g c = enter_asks c.requires c.count.ensures

pub returns-clause-added : goal.returns-clause-added
returns-clause-added g c = added c.requires c.count.ensures c.enter-table.ensures c.put_edges.ensures
