use Rattle.tile_occupancy.specs.Generated.{HasLines}
use Rattle.tile_occupancy.proofs.generator.all_lines.Given as goal

abbrev pub invariant-loop-k : goal.invariant-loop-k
invariant-loop-k l = HasLines l.scheme l.levels l.contents l.k l.number l.words.items
