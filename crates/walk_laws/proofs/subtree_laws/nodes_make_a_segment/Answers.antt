use Rattle.walk_laws.proofs.Decoded.{nodes_make_a_segment}
use Rattle.walk_laws.proofs.subtree_laws.nodes_make_a_segment.Goals as goal

pub returns : goal.returns
returns c = nodes_make_a_segment
