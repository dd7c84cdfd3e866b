use Rattle.region_scan.proofs.NodesInRegion.{node_children}
use Rattle.region_scan.proofs.node_laws.children_of_a_node_are_nodes.Goals as goal

pub returns : goal.returns
returns c = node_children
