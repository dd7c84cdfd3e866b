-- What holds of the table of faults as a whole (this project's own).
use Rattle.std.specs.Prelude.{ℕ, ◌≡◌, ◌↔◌, ◌+◌, ◌<◌, ◌≤◌, false, List, take, Result, Err, IsOk}
use Rattle.implicit_tiling.specs.Tile.{Tile}
use Rattle.implicit_tiling.specs.Scene.{Layout}
use Rattle.implicit_tileset.specs.SubtreeFile.{parts_of, header_bytes, json_length, binary_length}
use Rattle.implicit_tileset.specs.FileForms.{is_json_form}
use Rattle.implicit_tileset.specs.BufferFiles.{Find}
use Rattle.implicit_tileset.specs.FileOutcome.{subtree_found, needed_names}

-- where a file in the binary form has none of the faults 3 to 6, its first k bytes have fault 3 exactly where they are
-- fewer than a header, and fault 6 exactly where they are a header and end before the parts do
abbrev pub CutFilesAreTold : Type 0
CutFilesAreTold = (find : Find) (layout : Layout) (root : Tile) (bytes : List ℕ) (k : ℕ)
    → is_json_form bytes ≡ false
    → IsOk (parts_of bytes)
    → ((subtree_found find layout root (take k bytes) ≡ Err 3) ↔ (k < header_bytes))
    × ((subtree_found find layout root (take k bytes) ≡ Err 6) ↔ ((header_bytes ≤ k)
    × (k < header_bytes + json_length bytes + binary_length bytes)))

-- a fault that stands between two rows of the table
pub record IsBetween {A : Type 0} (least most : ℕ) (r : Result A ℕ) : Type 0 where
  pub within : (n : ℕ) → r ≡ Err n → (least ≤ n) × (n ≤ most)

-- each fault of a file that is there and isn't too long is one of 3 to 20, and those that name what is needed are 3 to 13
abbrev pub FaultsAreNumbered : Type 0
FaultsAreNumbered = (find : Find) (layout : Layout) (root : Tile) (bytes : List ℕ)
    → IsBetween 3 20 (subtree_found find layout root bytes) × IsBetween 3 13 (needed_names layout root bytes)
