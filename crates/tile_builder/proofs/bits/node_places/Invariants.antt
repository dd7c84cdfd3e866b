use Rattle.std.proofs.Common.{◌≡◌, take, map}
use Rattle.implicit_tiling.specs.Availability.{place}
use Rattle.build_laws.specs.Made.{tile_in}
use Rattle.tile_builder.proofs.bits.node_places.Given as goal

abbrev pub invariant-loop-word : goal.invariant-loop-word
invariant-loop-word l = l.places.items ≡ map (λ w. place l.layout (tile_in l.layout w)) (take l.word-index l.words)
