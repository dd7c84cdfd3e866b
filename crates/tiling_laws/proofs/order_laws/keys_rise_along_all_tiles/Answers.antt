use Rattle.tiling_laws.proofs.Order.{keys_rise}
use Rattle.tiling_laws.proofs.order_laws.keys_rise_along_all_tiles.Goals as goal

pub returns : goal.returns
returns c = keys_rise
