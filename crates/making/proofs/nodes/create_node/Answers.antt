use Rattle.making.proofs.Creating.{merged_builds}
use Rattle.making.proofs.nodes.create_node.Goals as goal

-- `nodes::create_node` meets its contract: the edges merged, and settled. Assumes nothing.
pub settle-requires : goal.settle-requires
settle-requires c = (c.requires.0, merged_builds c.requires.1 c.merge_neighbours.ensures)
