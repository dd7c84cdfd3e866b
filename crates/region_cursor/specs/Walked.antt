-- The state of a walk after some steps over a scene, by the pairs and steps of the walk (this project's own).
use Rattle.std.specs.Prelude.{ℕ, ◌≡◌, ◌<◌, ◌≤◌, ◌++◌, Bool, true, false, List, [], length, take, map, Option, Some}
use Rattle.std.specs.Prelude.{None, slice_get, IsSomeAnd}
use Rattle.std.specs.List.{flat_map}
use Rattle.implicit_tiling.specs.Tile.{Tile}
use Rattle.implicit_tiling.specs.Region.{Region}
use Rattle.implicit_tiling.specs.Scene.{Scene}
use Rattle.implicit_tiling.specs.Answer.{most_tiles}
use Rattle.implicit_tiling.specs.Code.{word, tile_word}
use Rattle.implicit_tiling.specs.Steps.{Pair, pair_of, walk_roots, pairs, steps}
use Rattle.tile_coords.specs.Ends.{end_seen}
use Rattle.tile_coords.specs.declared.walk_end.WalkEnd.{WalkEnd}
use Rattle.walk_laws.specs.Children.{roots_below}
use Rattle.walk_laws.specs.Pairs.{pairs_above, NoPairFaults, tiles_of_pairs}
use Rattle.region_cursor.specs.Cursor.{Cursor, IsWalkOf, is_last_local, cursor_key}

-- the word of a root, with mask 0
abbrev pub root_word : Scene → Tile → ℕ
root_word s r = word s.layout.scheme r 0

-- the pairs above a level, and those of the first roots of that level
abbrev pub pairs_done : Scene → Region → ℕ → ℕ → List Pair
pairs_done s region level position = pairs_above s region level
    ++ map (pair_of level) (take position (walk_roots s region level))

-- the roots below some roots, which are found at the last local level alone
abbrev pub found_below : Bool → Scene → Region → List Tile → List Tile
found_below true s region roots = flat_map (roots_below s region) roots
found_below false s region roots = []

-- A walk that goes on after k steps: k pairs are done and tell no fault; the roots are those of the level, in key
-- order; the next ones are those below the roots that are done; and the tiles of the pairs were given.
pub record IsUnderWay (s : Scene) (region : Region) (k : ℕ) (c : Cursor) : Type 0 where
  pub of_scene : IsWalkOf s.layout region c
  pub within : c.level ≤ region.level
  pub done : k ≡ length (pairs_done s region c.level c.position)
  pub no_fault : NoPairFaults s (pairs_done s region c.level c.position)
  pub roots : c.roots ≡ map (root_word s) (walk_roots s region c.level)
  pub next_roots : c.next_roots ≡ map (root_word s) (found_below (is_last_local c) s region
      (take c.position (walk_roots s region c.level)))
  pub count : c.count ≡ length (tiles_of_pairs s region (pairs_done s region c.level c.position))
  pub few : c.count ≤ most_tiles

-- the state after k steps: it goes on, or all steps are made
abbrev pub IsAtBy : Option ℕ → Scene → Region → ℕ → Cursor → Type 0
IsAtBy (Some key) s region k c = IsUnderWay s region k c
IsAtBy None s region k c = k ≡ length (steps s region)

abbrev pub IsAt : Scene → Region → ℕ → Cursor → Type 0
IsAt s region k c = IsAtBy (cursor_key c) s region k c

-- the key after k steps: the word of the root of pair k, where step k is to be made, and none where all steps are made
abbrev pub IsNextKey : Scene → Region → ℕ → Option ℕ → Type 0
IsNextKey s region k (Some key) = (k < length (steps s region)) × IsSomeAnd (slice_get (pairs s region) k)
    (λ p. key ≡ root_word s p.root)
IsNextKey s region k None = k ≡ length (steps s region)

-- step k has the tiles of these words, and this end
abbrev pub GivesStep : Scene → Region → ℕ → List ℕ → WalkEnd → Type 0
GivesStep s region k words end =
    IsSomeAnd (slice_get (steps s region) k) (λ step. (words ≡ map (tile_word s) step.tiles)
    × (end_seen s.layout.scheme end ≡ step.end))
