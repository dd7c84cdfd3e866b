use Rattle.std.proofs.Common.{length, sym}
use Rattle.frame_pool.proofs.Empties.{none_empty, none_empty-before}
use Rattle.frame_pool.proofs.victim.victim.Goals as goal

pub returns-in-Some-clause-below : goal.returns-in-Some-clause-below
returns-in-Some-clause-below g c = none_empty-before c.args.census.now c.in-Some.frame (sym c.in-Some.ensures)

pub returns-in-None-clause-below : goal.returns-in-None-clause-below
returns-in-None-clause-below g c = none_empty c.args.census.now (sym c.in-None.ensures) (length c.args.census.now)
