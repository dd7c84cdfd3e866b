use Rattle.std.proofs.Common.{ap, ◌∙◌}
use Rattle.implicit_tiling.specs.Tile.{Tile}
use Rattle.implicit_tiling.specs.Code.{word}
use Rattle.tile_occupancy.specs.Generated.{generated_mask, generated_word}
use Rattle.tile_occupancy.proofs.Lines.{line_more}
use Rattle.tile_occupancy.proofs.generator.append_line.Goals as goal

pub loop-up-preserved : goal.loop-up-preserved
loop-up-preserved c =
    line_more c.args.scheme c.args.contents c.loop-up.up c.word_of.result c.args.tile.now c.args.out.now.items c.loop-up.out.items c.push.new.self.items
    (c.word_of.ensures
    ∙ ap (λ m. word c.args.scheme c.ancestor-above.result m) (c.level_mask.ensures ∙ ap (λ (t : Tile). generated_mask c.args.contents t.level) c.above.view_is)
    ∙ ap (generated_word c.args.scheme c.args.contents) c.ancestor-above.ensures)
    c.loop-up.invariant c.in_ok-push.ensures.items
