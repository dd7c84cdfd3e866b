-- The walk is read off its table.
use Rattle.std.proofs.Common.{◌∙◌, ◌*◌, ap, add-zero}
use Rattle.implicit_tiling.specs.Tile.{bit}
use Rattle.morton.proofs.Walks.{oct_gather_is}
use Rattle.morton.proofs.oct.gather.Goals as goal

pub returns-clause-bits : goal.returns-clause-bits
returns-clause-bits c = λ j h. oct_gather_is c.args.m j h ∙ ap (λ i. bit i c.args.m) (add-zero (3 * j))
