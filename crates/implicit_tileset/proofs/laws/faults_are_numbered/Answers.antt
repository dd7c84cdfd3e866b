use Rattle.implicit_tileset.proofs.Numbered.{found_between, names_between}
use Rattle.implicit_tileset.proofs.laws.faults_are_numbered.Goals as goal

pub returns : goal.returns
returns c = λ find layout root bytes. (found_between find layout root bytes, names_between layout root bytes)
