use Rattle.region_scan.proofs.NodeWords.{found_words_are_words}
use Rattle.region_scan.proofs.node_laws.what_is_found_are_words.Goals as goal

pub returns : goal.returns
returns c = found_words_are_words
