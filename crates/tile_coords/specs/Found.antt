-- How the fault of a root's file is told: the root by its word (this project's own).
use Rattle.std.specs.Prelude.{ℕ}
use Rattle.implicit_tiling.specs.declared.Scheme.{Scheme}
use Rattle.implicit_tiling.specs.Tile.{Tile}
use Rattle.implicit_tiling.specs.Code.{word}
use Rattle.tile_coords.specs.declared.walk_end.FoundFault.{FoundFault}

-- the found fault of a root's file, by the root's word with mask 0
abbrev pub found_of : Scheme → Tile × ℕ → FoundFault
found_of scheme fault = record { root = word scheme fault.0 0; number = fault.1 }
