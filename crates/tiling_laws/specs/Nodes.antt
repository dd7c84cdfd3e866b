-- The nodes of the levels above a level (OGC 22-025r4, implicit tiling: availability).
use Rattle.std.specs.Prelude.{ℕ, ◌≡◌, ◌+◌, ◌-◌, ◌*◌, ◌^◌, length}
use Rattle.std.specs.List.{flat_map, range_with_len}
use Rattle.implicit_tiling.specs.declared.Scheme.{Scheme}
use Rattle.implicit_tiling.specs.Tile.{branching, tiles_of_level}
use Rattle.implicit_tiling.specs.Availability.{nodes_above}

-- none above level 0, and each level adds its own
abbrev pub LevelsAddUp : Type 0
LevelsAddUp = (scheme : Scheme) (l : ℕ) → (nodes_above scheme 0 ≡ 0)
    × (nodes_above scheme (l + 1) ≡ nodes_above scheme l + branching scheme ^ l)

-- N - 1 times their number is one less than N^l
abbrev pub NodesTimesRest : Type 0
NodesTimesRest = (scheme : Scheme) (l : ℕ) → (branching scheme - 1) * nodes_above scheme l + 1 ≡ branching scheme ^ l

-- they are as many as the tiles of the levels 0 to l - 1
abbrev pub NodesAreTiles : Type 0
NodesAreTiles = (scheme : Scheme) (l : ℕ) → length (flat_map (tiles_of_level scheme) (range_with_len 0 l))
    ≡ nodes_above scheme l
