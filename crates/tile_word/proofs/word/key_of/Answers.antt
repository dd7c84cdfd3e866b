-- The mask is cleared, and level and index stay.
use Rattle.std.proofs.Common.{ap, ◌∙◌}
use Rattle.tile_word.specs.Words.{word_key}
use Rattle.tile_word.proofs.Parts.{without_its_mask}
use Rattle.tile_word.proofs.Tiles.{key_is_that_of_the_tile}
use Rattle.tile_word.proofs.word.key_of.Goals as goal

pub returns-clause-parts : goal.returns-clause-parts
returns-clause-parts c = without_its_mask c.word.inside.high c.word.inside.low c.word.invariant.0 c.word.invariant.1 ∙ ap word_key c.word.view_is

pub returns-clause-key : goal.returns-clause-key
returns-clause-key c = λ scheme is.
    without_its_mask c.word.inside.high c.word.inside.low c.word.invariant.0 c.word.invariant.1 ∙ ap word_key c.word.view_is
    ∙ key_is_that_of_the_tile scheme c.args.word is
