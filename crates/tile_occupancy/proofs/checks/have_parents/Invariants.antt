use Rattle.std.proofs.Common.{ℕ, ◌<◌}
use Rattle.std.specs.Prelude.{slice_index}
use Rattle.implicit_tiling.specs.Code.{word_tile}
use Rattle.tile_occupancy.specs.Occupied.{HasParent, tiles_of}
use Rattle.tile_occupancy.proofs.checks.have_parents.Given as goal

abbrev pub invariant-loop-word : goal.invariant-loop-word
invariant-loop-word l = (i : ℕ) → i < l.word-index → HasParent (tiles_of l.scheme l.words) (word_tile l.scheme (slice_index l.words i))
