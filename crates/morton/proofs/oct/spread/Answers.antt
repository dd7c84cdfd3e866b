-- The walk is read off its table.
use Rattle.std.proofs.Common.{arith}
use Rattle.morton.proofs.Walks.{oct_spread_is}
use Rattle.morton.proofs.oct.spread.Goals as goal

pub returns : goal.returns
returns c = oct_spread_is c.args.x (omega arith)
