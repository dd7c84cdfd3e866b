use Rattle.region_scan.proofs.NodeWords.{words_rise}
use Rattle.region_scan.proofs.node_laws.words_rise_with_the_local_index.Goals as goal

pub returns : goal.returns
returns c = words_rise
