use Rattle.tiling_laws.proofs.Index.{further_places}
use Rattle.tiling_laws.proofs.index_laws.further_places_add_nothing.Goals as goal

pub returns : goal.returns
returns c = further_places
