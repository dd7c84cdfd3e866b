-- The level and the mask share no place.
use Rattle.std.proofs.Common.{◌+◌, ◌*◌, ◌%◌, ◌^◌, ap, ◌∙◌, arith, bit_or}
use Rattle.tile_word.proofs.Parts.{word_of_parts}
use Rattle.tile_word.proofs.word.word_at.Goals as goal

pub returns : goal.returns
returns c =
    ap (λ n. bit_or (n * 2 ^ 16 % 2 ^ 64) c.from-2.result * 2 ^ 64 + c.args.index) c.from.ensures
    ∙ ap (λ n. bit_or (c.args.level * 2 ^ 16 % 2 ^ 64) n * 2 ^ 64 + c.args.index) c.from-2.ensures
    ∙ word_of_parts c.args.level c.args.mask c.args.index (omega arith) c.ranges.mask.fits
