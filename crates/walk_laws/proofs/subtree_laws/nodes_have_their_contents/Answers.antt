use Rattle.walk_laws.proofs.Decoded.{node_mask}
use Rattle.walk_laws.proofs.subtree_laws.nodes_have_their_contents.Goals as goal

pub returns : goal.returns
returns c = node_mask
