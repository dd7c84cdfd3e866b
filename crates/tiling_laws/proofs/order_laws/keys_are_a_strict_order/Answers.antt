use Rattle.tiling_laws.proofs.Order.{keys_are_an_order}
use Rattle.tiling_laws.proofs.order_laws.keys_are_a_strict_order.Goals as goal

pub returns : goal.returns
returns c = keys_are_an_order
