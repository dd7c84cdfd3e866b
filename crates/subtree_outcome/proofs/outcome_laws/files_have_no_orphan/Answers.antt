use Rattle.subtree_outcome.proofs.Orphans.{files_have_none}
use Rattle.subtree_outcome.proofs.outcome_laws.files_have_no_orphan.Goals as goal

pub returns : goal.returns
returns c = files_have_none
