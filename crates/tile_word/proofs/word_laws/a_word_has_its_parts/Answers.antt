use Rattle.tile_word.proofs.Tiles.{words_have_their_parts}
use Rattle.tile_word.proofs.word_laws.a_word_has_its_parts.Goals as goal

pub returns : goal.returns
returns c = words_have_their_parts
