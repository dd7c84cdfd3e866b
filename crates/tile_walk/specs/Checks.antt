-- What a check of a whole tileset finds (this project's own).
use Rattle.std.specs.Prelude.{ℕ, ◌≡◌, ◌+◌, ◌<◌, ◌≤◌, true, false, List, length, map, Option, IfSome}
use Rattle.std.specs.List.{filter_map, All}
use Rattle.implicit_tiling.specs.Files.{Files}
use Rattle.implicit_tiling.specs.Tile.{Tile}
use Rattle.implicit_tiling.specs.Region.{Region}
use Rattle.implicit_tiling.specs.Scene.{Layout, Scene}
use Rattle.implicit_tiling.specs.Answer.{is_on_walk, fault_at}
use Rattle.implicit_tiling.specs.Checked.{most_roots, checked}
use Rattle.implicit_tiling.specs.Code.{word_tile}
use Rattle.tile_coords.specs.declared.walk_end.FoundFault.{FoundFault}
use Rattle.tile_coords.specs.declared.walk_end.CheckEnd.{CheckEnd}
use Rattle.tile_coords.specs.Found.{found_of}
use Rattle.implicit_tileset.specs.Scene.{scene_of}
use Rattle.subtree_outcome.specs.Found.{IsFaultOf}
use Rattle.subtree_outcome.specs.Fetched.{HasFetched}

-- the faults of the files of some roots, in their order
abbrev pub found_faults : Scene → List ℕ → List FoundFault
found_faults s roots = map (found_of s.layout.scheme) (filter_map (fault_at s) (map (word_tile s.layout.scheme) roots))

abbrev pub IsOnWalk : Scene → Region → ℕ → Type 0
IsOnWalk s region w = is_on_walk s region (word_tile s.layout.scheme w) ≡ true

-- each fault is that of a root of the layout
abbrev pub IsFault : Layout → FoundFault → Type 0
IsFault layout fault = IsFaultOf layout fault.root fault.number

abbrev pub AreFaults : Layout → List FoundFault → Type 0
AreFaults layout found = All (IsFault layout) found

-- how many of so many roots were looked at, after some others: all, or up to the most where more follow
pub record Counts (looked roots : ℕ) (end : CheckEnd) : Type 0 where
  pub some : looked ≤ end.looked
  pub few : end.looked ≤ most_roots
  pub all : end.more ≡ false → end.looked ≡ looked + roots
  pub cut : end.more ≡ true → (end.looked ≡ most_roots) × (end.looked < looked + roots)

-- the faults and the end are those of the check of a scene
pub record IsCheck (s : Scene) (found : List FoundFault) (end : CheckEnd) : Type 0 where
  pub faults_are : found ≡ map (found_of s.layout.scheme) (checked s).faults
  pub looked_is : end.looked ≡ length (checked s).looked
  pub more_is : end.more ≡ (checked s).more

-- the fetches of a check: those for as many roots as were looked at, which are the first that are reached where files
-- are told
pub record HasLookedAt (layout : Layout) (told : Option Files) (looked before now : ℕ) : Type 0 where
  pub roots : List Tile
  pub fetched : HasFetched layout told roots before now
  pub as_many : length roots ≡ looked
  pub of_scene : IfSome told (λ files. roots ≡ (checked (scene_of files layout)).looked)
