use Rattle.std.proofs.Common.{◌≡◌, ℕ, ◌<◌, List, Bool, true, get_or}
use Rattle.implicit_tiling.specs.Bits.{bit_at}
use Rattle.availability.proofs.subtree.Subtree.has_content_alone.Given as goal

abbrev pub invariant-loop-bits : goal.invariant-loop-bits
invariant-loop-bits l = (n : ℕ) (d : List Bool) (i : ℕ) → n < l.bits-index → i < l.kept → bit_at (get_or l.bits-items n d) i ≡ true → bit_at l.self.tiles i ≡ true
