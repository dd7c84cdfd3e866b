use Rattle.walk_laws.proofs.Decoded.{node_words}
use Rattle.walk_laws.proofs.subtree_laws.node_words_are_tile_words.Goals as goal

pub returns : goal.returns
returns c = node_words
