use Rattle.tiling_laws.proofs.Index.{index_below}
use Rattle.tiling_laws.proofs.index_laws.an_index_is_within_its_level.Goals as goal

pub returns : goal.returns
returns c = index_below
