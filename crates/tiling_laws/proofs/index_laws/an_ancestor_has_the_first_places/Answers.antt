use Rattle.tiling_laws.proofs.Ancestors.{ancestor_index}
use Rattle.tiling_laws.proofs.index_laws.an_ancestor_has_the_first_places.Goals as goal

pub returns : goal.returns
returns c = ancestor_index
