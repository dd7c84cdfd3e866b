-- Two coordinates that share no place are one number.
use Rattle.std.proofs.Common.{refl, lit≤}
use Rattle.morton.proofs.Places.{of_two}
use Rattle.morton.proofs.quad.index2.Goals as goal

pub returns : goal.returns
returns c = of_two 32 c.args.x c.args.y c.spread.result c.spread-2.result refl (lit≤ tt) c.spread.ensures c.spread-2.ensures
