use Rattle.std.proofs.Common.{◌≡◌, ◌++◌}
use Rattle.tile_occupancy.specs.Generated.{line_words}
use Rattle.tile_occupancy.proofs.generator.append_line.Given as goal

abbrev pub invariant-loop-up : goal.invariant-loop-up
invariant-loop-up l = l.out.items ≡ l.fn.out.items ++ line_words l.scheme l.up l.contents l.tile
