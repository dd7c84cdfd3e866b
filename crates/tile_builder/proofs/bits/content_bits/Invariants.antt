use Rattle.std.proofs.Common.{◌≡◌, map}
use Rattle.std.specs.Prelude.{filter}
use Rattle.std.specs.List.{range_with_len}
use Rattle.build_laws.specs.Made.{node_bits, has_content}
use Rattle.tile_builder.proofs.bits.content_bits.Given as goal

abbrev pub invariant-loop-content : goal.invariant-loop-content
invariant-loop-content l = l.contents.items ≡ map (λ c. node_bits l.layout (filter (has_content c) l.words)) (range_with_len 0 l.content)
