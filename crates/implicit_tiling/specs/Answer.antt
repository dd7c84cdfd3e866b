-- The answer for a region: the available tiles of its box in key order, up to the first fault on the walk and to the
-- greatest number of tiles (this project's own).
use Rattle.std.specs.Prelude.{ℕ, ◌&&◌, nat_lt, Bool, true, false, List, [], ◌∷◌, length, take, filter, Option, Some}
use Rattle.std.specs.Prelude.{None, option_map}
use Rattle.std.specs.List.{filter_map}
use Rattle.implicit_tiling.specs.declared.Scheme.{Scheme}
use Rattle.implicit_tiling.specs.Tile.{Tile, is_key_below, all_tiles}
use Rattle.implicit_tiling.specs.Region.{Region, is_in}
use Rattle.implicit_tiling.specs.Scene.{Scene, fault_of}
use Rattle.implicit_tiling.specs.Availability.{is_available, is_reached}

-- the walk of a region: the subtree roots that are reached and in the region
abbrev pub is_on_walk : Scene → Region → Tile → Bool
is_on_walk s region r = is_reached s r && is_in region r

-- a root with the fault of its file
abbrev pub fault_at : Scene → Tile → Option (Tile × ℕ)
fault_at s r = option_map (λ n. (r, n)) (fault_of (s.outcome r))

abbrev pub first : {X : Type 0} → List X → Option X
first [] = None
first (x ∷ xs) = Some x

-- the root of least key on the walk whose file has a fault, with the fault's number
abbrev pub first_fault : Scene → Region → Option (Tile × ℕ)
first_fault s region = first
    (filter_map (fault_at s) (filter (is_on_walk s region) (all_tiles s.layout.scheme region.level)))

-- the tile's key is below that of the first fault, where there is one
abbrev pub is_before : Scheme → Option (Tile × ℕ) → Tile → Bool
is_before scheme None t = true
is_before scheme (Some fault) t = is_key_below scheme t fault.0

-- the tiles of a region, in key order
abbrev pub tiles : Scene → Region → List Tile
tiles s region = filter
    (λ t. is_in region t && is_available s t && is_before s.layout.scheme (first_fault s region) t)
    (all_tiles s.layout.scheme region.level)

pub data End : Type 0 where
  complete : End
  too_many : End
  fault : Tile → ℕ → End

pub record Answer : Type 0 where
  pub tiles : List Tile
  pub end : End

-- the most tiles of an answer
abbrev pub most_tiles : ℕ
most_tiles = 65536

abbrev pub end_at : Option (Tile × ℕ) → End
end_at None = complete
end_at (Some found) = fault found.0 found.1

-- the cut comes before the fault
abbrev pub end_from : Bool → Option (Tile × ℕ) → End
end_from true found = too_many
end_from false found = end_at found

abbrev pub end_of : ℕ → Option (Tile × ℕ) → End
end_of count found = end_from (nat_lt most_tiles count) found

abbrev pub answer : Scene → Region → Answer
answer s region = record {
  tiles = take most_tiles (tiles s region);
  end = end_of (length (tiles s region))
      (first_fault s region);
}
