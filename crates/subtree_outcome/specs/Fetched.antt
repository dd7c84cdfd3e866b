-- How many fetches it takes to read the outcomes of subtree roots (this project's own).
use Rattle.std.specs.Prelude.{ℕ, ◌≡◌, ◌+◌, ◌*◌, ◌≤◌, List, length, map, Option, IfSome, Result}
use Rattle.std.specs.List.{sum}
use Rattle.implicit_tiling.specs.Files.{Files}
use Rattle.implicit_tiling.specs.Tile.{Tile}
use Rattle.implicit_tiling.specs.Scene.{Layout}
use Rattle.implicit_tileset.specs.FileOutcome.{cost, names_cost}
use Rattle.scene_ports.specs.Counts.{more_by}

-- the most for one root: its own file, and a file for the buffer of each availability that is used
abbrev pub most_fetches : Layout → ℕ
most_fetches layout = length layout.contents + 3

-- what some roots cost together, each once for each time that it stands among them
abbrev pub cost_of_all : Files → Layout → List Tile → ℕ
cost_of_all files layout roots = sum (map (cost files layout) roots)

-- The fetches for some roots, of each of which the outcome was read: where files are told, as many as these roots cost;
-- else at least one for each, and at most the most.
pub record HasFetched (layout : Layout) (told : Option Files) (roots : List Tile) (before now : ℕ) : Type 0 where
  pub fetches : ℕ
  pub counted : now ≡ more_by fetches before
  pub some : length roots ≤ fetches
  pub few : fetches ≤ most_fetches layout * length roots
  pub of_files : IfSome told (λ files. fetches ≡ cost_of_all files layout roots)

-- for proofs and inner functions: the fetches of the buffers of one file, by the names that it needs
pub record HasFetchedBuffers (layout : Layout) (needed : Result (List (List ℕ)) ℕ) (before now : ℕ) : Type 0 where
  pub fetches : ℕ
  pub counted : now ≡ more_by fetches before
  pub are : names_cost needed ≡ fetches + 1
  pub few : fetches ≤ length layout.contents + 2
