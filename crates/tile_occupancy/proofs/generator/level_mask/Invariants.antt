use Rattle.std.proofs.Common.{◌≡◌, ◌<◌, ◌^◌}
use Rattle.tile_occupancy.specs.Generated.{generated_mask}
use Rattle.tile_occupancy.proofs.generator.level_mask.Given as goal

abbrev pub invariant-loop-content : goal.invariant-loop-content
invariant-loop-content l = (l.mask ≡ generated_mask l.content l.level) × (l.mask < 2 ^ l.content)
