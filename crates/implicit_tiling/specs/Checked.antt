-- What a check of a whole tileset looks at: the first subtree roots that are reached, in key order, and the faults of
-- their files (this project's own).
use Rattle.std.specs.Prelude.{ℕ, ◌-◌, nat_lt, Bool, List, length, take, filter}
use Rattle.std.specs.List.{filter_map}
use Rattle.implicit_tiling.specs.Tile.{Tile, all_tiles}
use Rattle.implicit_tiling.specs.Scene.{Scene}
use Rattle.implicit_tiling.specs.Availability.{is_reached}
use Rattle.implicit_tiling.specs.Answer.{fault_at}

-- the most roots that are looked at
abbrev pub most_roots : ℕ
most_roots = 65536

-- all roots that are reached, in key order
abbrev pub reached_roots : Scene → List Tile
reached_roots s = filter (is_reached s) (all_tiles s.layout.scheme (s.layout.levels - 1))

pub record Checked : Type 0 where
  pub looked : List Tile
  pub faults : List (Tile × ℕ)
  pub more : Bool

abbrev pub checked : Scene → Checked
checked s = record {
  looked = take most_roots (reached_roots s);
  faults = filter_map (fault_at s) (take most_roots (reached_roots s));
  more = nat_lt most_roots (length (reached_roots s));
}
