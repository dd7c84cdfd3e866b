use Rattle.availability.proofs.Repeats.{twice_bits}
use Rattle.availability.proofs.rules.twice.Goals as goal

pub returns : goal.returns
returns c = twice_bits c.args.word c.from.result c.index2.result c.from.ensures c.index2.ensures
