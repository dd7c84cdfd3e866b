use Rattle.std.proofs.Common.{◌≡◌, ◌++◌, ℕ, length, map, take}
use Rattle.std.specs.Prelude.{filter}
use Rattle.build_laws.specs.Made.{has_content}
use Rattle.tile_builder.proofs.bits.append_held.Given as goal

abbrev pub invariant-loop-word : goal.invariant-loop-word
invariant-loop-word l = (place : ℕ → ℕ) → l.places ≡ map place l.words
    → l.held.items ≡ l.fn.held.items ++ map place (filter (has_content l.content) (take (length l.yielded) l.words))
