use Rattle.tiling_laws.proofs.Places.{place_below}
use Rattle.tiling_laws.proofs.place_laws.a_place_is_within_its_subtree.Goals as goal

pub returns : goal.returns
returns c = place_below
