use Rattle.region_scan.proofs.NodesInRegion.{nodes_in_the_region}
use Rattle.region_scan.proofs.node_laws.a_node_is_in_the_region_where_its_coordinates_are.Goals as goal

pub returns : goal.returns
returns c = nodes_in_the_region
