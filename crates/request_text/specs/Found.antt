-- The text of a check by the words of the faulty roots (this project's own).
use Rattle.std.specs.Prelude.{ℕ, List, ◌++◌, length, map}
use Rattle.std.specs.List.{flat_map}
use Rattle.implicit_tiling.specs.declared.Scheme.{Scheme}
use Rattle.implicit_tiling.specs.Tile.{Tile}
use Rattle.implicit_tiling.specs.Code.{word_tile}
use Rattle.implicit_tiling.specs.Text.{fault_line, check_end_line}
use Rattle.implicit_tiling.specs.Checked.{Checked}
use Rattle.tile_coords.specs.declared.walk_end.FoundFault.{FoundFault}
use Rattle.tile_coords.specs.declared.walk_end.CheckEnd.{CheckEnd}

-- the root with the number of its file's fault
abbrev pub fault_seen : Scheme → FoundFault → Tile × ℕ
fault_seen scheme f = (word_tile scheme f.root, f.number)

-- the text of a check that found these faults and ended so
abbrev pub found_text : Scheme → List FoundFault → CheckEnd → List ℕ
found_text scheme found end = flat_map (fault_line scheme) (map (fault_seen scheme) found)
    ++ check_end_line end.more end.looked (length found)

abbrev pub end_of_check : Checked → CheckEnd
end_of_check c = record { looked = length c.looked; more = c.more }
