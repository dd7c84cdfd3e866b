use Rattle.region_scan.proofs.NodeWords.{found_words_rise}
use Rattle.region_scan.proofs.node_laws.what_is_found_is_in_key_order.Goals as goal

pub returns : goal.returns
returns c = found_words_rise
