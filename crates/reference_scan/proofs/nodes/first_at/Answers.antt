use Rattle.region_scan.proofs.NodeTiles.{first_by_shift}
use Rattle.reference_scan.proofs.nodes.first_at.Goals as goal

pub returns : goal.returns
returns c = first_by_shift _ _ c.args.local c.index_of.result c.axes.result c.subtree.view_is c.subtree.invariant c.requires c.index_of.ensures c.axes.ensures
