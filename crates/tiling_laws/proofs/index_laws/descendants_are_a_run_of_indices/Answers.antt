use Rattle.tiling_laws.proofs.Ancestors.{descendants}
use Rattle.tiling_laws.proofs.index_laws.descendants_are_a_run_of_indices.Goals as goal

pub returns : goal.returns
returns c = descendants
