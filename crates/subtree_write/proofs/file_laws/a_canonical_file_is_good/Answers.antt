use Rattle.subtree_write.proofs.ReadBack.{canonical_files_are_good}
use Rattle.subtree_write.proofs.file_laws.a_canonical_file_is_good.Goals as goal

pub returns : goal.returns
returns c = canonical_files_are_good
