-- Scenes of files that are looked up alike.
use Rattle.std.proofs.Common.{◌≡◌, ◌≢◌, ℕ, List, codes, get_or, ap, ◌∙◌}
use Rattle.std.specs.Prelude.{Ok, length, nat_lt}
use Rattle.std.proofs.lemmas.Bool.{le-ltb}
use Rattle.implicit_tiling.specs.Checks.{need, refuse}
use Rattle.implicit_tiling.specs.Limits.{most_file_bytes}
use Rattle.implicit_tiling.specs.Files.{Files, file}
use Rattle.implicit_tiling.specs.Tile.{Tile}
use Rattle.implicit_tiling.specs.Scene.{Layout}
use Rattle.implicit_tileset.specs.Tileset.{layout_of}
use Rattle.implicit_tileset.specs.FileOutcome.{outcome_of_bytes}
use Rattle.implicit_tileset.specs.Scene.{subtree_name, scene_of, layout_in}
use Rattle.scene_ports.specs.Keeper.{SameButFor, Puts}
use Rattle.scene_ports.specs.declared.keeper.Put.TheVariants.{Kept}
use Rattle.tileset_write.specs.LayoutText.{layout_text, IsLayout}
use Rattle.tileset_write.proofs.LayoutStated.{layout_texts_read_back}
use Rattle.tileset_write.proofs.LayoutShort.{layout_texts_are_short}
use Rattle.scene_ports.specs.Files.{HasDistinctNames}
use Rattle.build_laws.specs.Made.{made_roots, made_files}
use Rattle.build_laws.specs.Holds.{AreWordsOf, HoldsTiles}
use Rattle.build_laws.proofs.Holds.{made_files_hold_the_tiles}
use Rattle.tile_builder.specs.Puts.{ArePut}
use Rattle.tile_builder.proofs.Holding.{have_made_files}

-- where each file is the same, so is the scene
pub same_scene : (layout : Layout) (one other : Files) → ((name : List ℕ) → file name one ≡ file name other) → scene_of one layout ≡ scene_of other layout
same_scene layout one other alike = λ i. record { layout = layout; outcome = λ r. outcome_of_bytes (λ name. alike name i) layout r (alike (subtree_name layout r) i) }

-- made files need no other file, so one of another name behind them leaves the tiles that they hold
pub still_hold : (layout : Layout) (name : List ℕ) (words : List ℕ) (first mid now : Files) → AreWordsOf layout words → HasDistinctNames (made_files layout words) → ((t : Tile) → subtree_name layout t ≢ name)
    → ArePut (made_files layout words) first mid → SameButFor name mid now → HoldsTiles (scene_of now layout) words
still_hold layout name words first mid now are distinct apart put same =
    let made = have_made_files layout words first mid distinct put in
    made_files_hold_the_tiles layout words now are (λ k d within.
    let r = get_or (made_roots layout words) k d in
    same (subtree_name layout r) (apart r) ∙ made k d within)

-- the text of a layout is read as the layout
pub layout_read : (layout : Layout) (mid now : Files) → IsLayout layout → Puts (codes "tileset.json") (layout_text layout) mid now Kept → layout_in now ≡ Ok layout
layout_read layout mid now is put =
    ap (λ found. need 1 found (λ bytes. refuse 2 (nat_lt most_file_bytes (length bytes)) (layout_of bytes))) put.0
    ∙ ap (λ long. refuse 2 long (layout_of (layout_text layout))) (le-ltb most_file_bytes (length (layout_text layout)) (layout_texts_are_short layout is))
    ∙ layout_texts_read_back layout is
