use Rattle.tiling_laws.proofs.Order.{in_all_tiles}
use Rattle.tiling_laws.proofs.order_laws.all_tiles_are_in_their_list.Goals as goal

pub returns : goal.returns
returns c = in_all_tiles
