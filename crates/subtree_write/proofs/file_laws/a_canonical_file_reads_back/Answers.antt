use Rattle.subtree_write.proofs.ReadBack.{canonical_files_read_back}
use Rattle.subtree_write.proofs.file_laws.a_canonical_file_reads_back.Goals as goal

pub returns : goal.returns
returns c = canonical_files_read_back
