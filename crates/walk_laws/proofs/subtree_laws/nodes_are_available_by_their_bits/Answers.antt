use Rattle.walk_laws.proofs.Decoded.{node_available}
use Rattle.walk_laws.proofs.subtree_laws.nodes_are_available_by_their_bits.Goals as goal

pub returns : goal.returns
returns c = node_available
