use Rattle.tiling_laws.proofs.Index.{child_index}
use Rattle.tiling_laws.proofs.index_laws.children_stand_in_index_order.Goals as goal

pub returns : goal.returns
returns c = child_index
