use Rattle.implicit_tileset.proofs.Cut.{cut_files_are_told}
use Rattle.implicit_tileset.proofs.laws.a_cut_file_has_fault_3_or_6.Goals as goal

pub returns : goal.returns
returns c = cut_files_are_told
