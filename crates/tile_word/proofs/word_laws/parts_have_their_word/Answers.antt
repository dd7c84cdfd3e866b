use Rattle.tile_word.proofs.Tiles.{parts_have_their_word as law}
use Rattle.tile_word.proofs.word_laws.parts_have_their_word.Goals as goal

pub returns : goal.returns
returns c = law
