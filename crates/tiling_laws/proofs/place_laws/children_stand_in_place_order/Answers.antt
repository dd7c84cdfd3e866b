use Rattle.tiling_laws.proofs.Places.{child_place}
use Rattle.tiling_laws.proofs.place_laws.children_stand_in_place_order.Goals as goal

pub returns : goal.returns
returns c = child_place
