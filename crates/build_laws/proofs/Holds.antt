-- Where the made files of some tiles stand, these tiles are available and no others, each with its contents.
use Rattle.std.proofs.Common.{◌≡◌, ℕ, ◌≤◌, true, List}
use Rattle.std.specs.List.{Contains}
use Rattle.std.proofs.lemmas.List.Elements.{Contains-get_or}
use Rattle.implicit_tiling.specs.Tile.{Tile, IsTile, ancestor}
use Rattle.implicit_tiling.specs.Scene.{Scene}
use Rattle.implicit_tiling.specs.Availability.{local_level, subtree_root, is_available}
use Rattle.implicit_tileset.specs.Scene.{scene_of}
use Rattle.tiling_laws.specs.Available.{HasBits}
use Rattle.tiling_laws.proofs.Ancestors.{ancestor_is_tile}
use Rattle.tiling_laws.proofs.Available.{available_as_written, available_by_bits}
use Rattle.tile_occupancy.specs.Occupied.{tiles_of}
use Rattle.build_laws.specs.Holds.{HoldsTiles}
use Rattle.build_laws.specs.Laws.{MadeFilesHoldTheTiles}
use Rattle.build_laws.proofs.Under.{ancestor_there}
use Rattle.build_laws.proofs.Outcomes.{IsMadeOf, files_are_good, no_fault, tile_of_bit, bit_of_tile, child_bit_of_tile}
use Rattle.build_laws.proofs.Masks.{mask_of_word}
use Rattle.build_laws.proofs.Reached.{reached_is_made}

-- an available tile is one of those given
tile_of_available : (s : Scene) (words : List ℕ) (t : Tile) → IsMadeOf s words → IsTile s.layout.scheme t → is_available s t ≡ true → Contains (tiles_of s.layout.scheme words) t
tile_of_available s words t made tile available =
    let is = (available_as_written s t).0 available in
    let root = reached_is_made s words (subtree_root s.layout t) made (ancestor_is_tile s.layout.scheme (local_level s.layout t) t tile) is.reached in
    tile_of_bit s words t made tile root is.bit

-- and each of these, with all those above it, has its bits
available_of_tile : (s : Scene) (words : List ℕ) (t : Tile) → IsMadeOf s words → Contains (tiles_of s.layout.scheme words) t → is_available s t ≡ true
available_of_tile s words t made there =
    let above : (k : ℕ) → k ≤ t.level → HasBits s (ancestor k t) = λ k le.
    let up = ancestor_there s.layout.scheme s.layout.levels words k t made.are.whole there le in
    record { own = bit_of_tile s words (ancestor k t) made up; named = λ starts below. child_bit_of_tile s words (ancestor k t) made below starts up } in
    (available_by_bits s t).1 above

pub holds_tiles : (s : Scene) (words : List ℕ) → IsMadeOf s words → HoldsTiles s words
holds_tiles s words made = record {
  tiles = λ t tile. (tile_of_available s words t made tile, available_of_tile s words t made);
  masks = λ k d low. mask_of_word s words _ made (Contains-get_or words k d low);
  no_faults = λ r tile reached. no_fault s words r made (reached_is_made s words r made tile reached);
}

pub made_files_hold_the_tiles : MadeFilesHoldTheTiles
made_files_hold_the_tiles layout words files are have = holds_tiles (scene_of files layout) words (files_are_good layout words files are have)
