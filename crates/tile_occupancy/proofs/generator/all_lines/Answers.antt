use Rattle.tile_occupancy.proofs.Lines.{lines_more}
use Rattle.tile_occupancy.proofs.generator.all_lines.Goals as goal

pub loop-k-preserved : goal.loop-k-preserved
loop-k-preserved c =
    lines_more c.args.scheme c.args.levels c.args.contents c.loop-k.k c.args.number c.point.result c.loop-k.words.items c.append_line.new.out.items c.requires.some
    c.point.ensures.point c.loop-k.invariant c.in_ok-append_line.ensures
