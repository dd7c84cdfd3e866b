use Rattle.walk_laws.proofs.Runs.{levels_split}
use Rattle.walk_laws.proofs.split_laws.a_level_splits_by_a_level_above.Goals as goal

pub returns : goal.returns
returns c = levels_split
