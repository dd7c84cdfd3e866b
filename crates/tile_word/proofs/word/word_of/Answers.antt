use Rattle.std.proofs.Common.{◌+◌, ◌*◌, ◌^◌, ap, ◌∙◌}
use Rattle.implicit_tiling.specs.Tile.{Tile}
use Rattle.tile_word.proofs.word.word_of.Goals as goal

pub returns : goal.returns
returns c =
    c.word_at.ensures
    ∙ ap (λ l. l * 2 ^ 80 + c.args.mask * 2 ^ 64 + c.index_of.result) (ap (λ (t : Tile). t.level) c.tile.view_is)
    ∙ ap (λ i. c.args.tile.now.level * 2 ^ 80 + c.args.mask * 2 ^ 64 + i) c.index_of.ensures
