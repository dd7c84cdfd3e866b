use Rattle.availability.proofs.Repeats.{four_times, eight_times}
use Rattle.availability.proofs.rules.for_each_child.Goals as goal

pub returns-in-Quad : goal.returns-in-Quad
returns-in-Quad c = four_times c.args.scheme c.args.word c.twice.result c.twice-four_times.result c.in-Quad.is c.twice.ensures c.twice-four_times.ensures

pub returns-in-Oct : goal.returns-in-Oct
returns-in-Oct c =
    eight_times c.args.scheme c.args.word c.twice.result c.twice-four_times.result c.twice-in-Oct.result c.in-Oct.is c.twice.ensures c.twice-four_times.ensures c.twice-in-Oct.ensures
