use Rattle.tiling_laws.proofs.Nodes.{nodes_times_rest}
use Rattle.tiling_laws.proofs.node_laws.nodes_times_one_less_than_n.Goals as goal

pub returns : goal.returns
returns c = nodes_times_rest
