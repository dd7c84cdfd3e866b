use Rattle.tiling_laws.proofs.Nodes.{levels_add_up}
use Rattle.tiling_laws.proofs.node_laws.levels_add_up.Goals as goal

pub returns : goal.returns
returns c = levels_add_up
