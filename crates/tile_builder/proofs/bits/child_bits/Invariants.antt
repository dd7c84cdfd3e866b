use Rattle.std.proofs.Common.{◌≡◌, take, map}
use Rattle.build_laws.specs.Made.{child_place}
use Rattle.tile_builder.proofs.bits.child_bits.Given as goal

abbrev pub invariant-loop-root : goal.invariant-loop-root
invariant-loop-root l = l.places.items ≡ map (child_place l.layout) (take l.root-index l.roots)
