use Rattle.tiling_laws.proofs.Rising.{rising_tiles_are_one}
use Rattle.tiling_laws.proofs.order_laws.rising_lists_are_one.Goals as goal

pub returns : goal.returns
returns c = rising_tiles_are_one
