use Rattle.std.proofs.Common.{◌≡◌, map, take}
use Rattle.implicit_tiling.specs.Subtree.{mask_of_bits}
use Rattle.implicit_tiling.specs.Bits.{bit_at}
use Rattle.availability.proofs.rules.mask_at.Given as goal

abbrev pub invariant-loop-content : goal.invariant-loop-content
invariant-loop-content l = l.mask ≡ mask_of_bits 0 (map (λ bits. bit_at bits l.place) (take l.content l.contents))
