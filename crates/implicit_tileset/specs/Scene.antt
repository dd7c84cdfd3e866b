-- What a list of files holds (OGC 22-025r4, implicit tiling: subtrees).
use Rattle.std.specs.Prelude.{ℕ, List, codes, length, nat_lt, Result}
use Rattle.implicit_tiling.specs.Files.{Files, file}
use Rattle.implicit_tiling.specs.Template.{filled}
use Rattle.implicit_tiling.specs.Checks.{need, refuse}
use Rattle.implicit_tiling.specs.Limits.{most_file_bytes}
use Rattle.implicit_tiling.specs.Tile.{Tile}
use Rattle.implicit_tiling.specs.Scene.{Layout, Scene}
use Rattle.implicit_tileset.specs.Tileset.{layout_of}
use Rattle.implicit_tileset.specs.FileOutcome.{outcome_among}

-- the name of a subtree root's file
abbrev pub subtree_name : Layout → Tile → List ℕ
subtree_name layout r = filled layout.scheme layout.subtree r

abbrev pub scene_of : Files → Layout → Scene
scene_of files layout = record { layout = layout; outcome = outcome_among files layout }

-- the layout of the files, or the first fault of `tileset.json`: 1 there is none, 2 it is too long, or one of 3 to 12
abbrev pub layout_in : Files → Result Layout ℕ
layout_in files = need 1 (file (codes "tileset.json") files)
    (λ bytes. refuse 2 (nat_lt most_file_bytes (length bytes)) (layout_of bytes))
