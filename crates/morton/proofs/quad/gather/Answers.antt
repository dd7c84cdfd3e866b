-- The walk is read off its table.
use Rattle.std.proofs.Common.{◌∙◌, ◌*◌, ap, add-zero}
use Rattle.implicit_tiling.specs.Tile.{bit}
use Rattle.morton.proofs.Walks.{quad_gather_is}
use Rattle.morton.proofs.quad.gather.Goals as goal

pub returns : goal.returns
returns c = λ j h. quad_gather_is c.args.m j h ∙ ap (λ i. bit i c.args.m) (add-zero (2 * j))
