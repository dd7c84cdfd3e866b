use Rattle.tile_word.proofs.Tiles.{words_are_ordered}
use Rattle.tile_word.proofs.word_laws.words_are_ordered_as_keys.Goals as goal

pub returns : goal.returns
returns c = words_are_ordered
