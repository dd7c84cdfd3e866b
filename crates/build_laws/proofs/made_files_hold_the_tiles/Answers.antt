use Rattle.build_laws.proofs.Holds.{made_files_hold_the_tiles}
use Rattle.build_laws.proofs.made_files_hold_the_tiles.Goals as goal

pub returns : goal.returns
returns c = made_files_hold_the_tiles
