-- Where all made files are put, the files hold the tiles.
use Rattle.std.proofs.Common.{◌≡◌, ℕ, List, ◌++◌, get_or, subst, ◌∙◌, arith}
use Rattle.std.specs.Prelude.{Option, Some}
use Rattle.std.proofs.lemmas.List.{get_or-map, length-map}
use Rattle.implicit_tiling.specs.declared.Scheme.{Scheme}
use Rattle.implicit_tiling.specs.Files.{Files, file}
use Rattle.implicit_tiling.specs.Scene.{Layout}
use Rattle.implicit_tileset.specs.Scene.{scene_of, subtree_name}
use Rattle.scene_ports.specs.Files.{HasDistinctNames}
use Rattle.tile_occupancy.specs.Occupied.{IsOccupancy}
use Rattle.build_laws.specs.Made.{made_roots, made_files}
use Rattle.build_laws.specs.Holds.{AreWordsOf, HaveMadeFiles, HoldsTiles}
use Rattle.build_laws.proofs.Holds.{made_files_hold_the_tiles}
use Rattle.tile_builder.specs.Puts.{ArePut, IfTold}
use Rattle.tile_builder.proofs.Putting.{all_found, told_weaker}
use Rattle.tile_builder.proofs.Steps.{file_of}

pub have_made_files : (layout : Layout) (words : List ℕ) (before now : Files) → HasDistinctNames (made_files layout words) → ArePut (made_files layout words) before now
    → HaveMadeFiles layout words now
have_made_files layout words before now distinct put k d h =
    let roots = made_roots layout words in
    let r = get_or roots k d in
    let f = file_of layout words in
    let found = all_found (made_files layout words) before distinct k (f d) (omega (arith, h, length-map roots f)) in
    let at = get_or-map f roots k d (f d) h in
    put (subtree_name layout r) ∙ subst (λ p. file p.0 (made_files layout words ++ before) ≡ Some p.1) at found

pub holds_from : (layout : Layout) (words : List ℕ) (old now : Option Files) → AreWordsOf layout words → HasDistinctNames (made_files layout words)
    → IfTold old now (ArePut (made_files layout words)) → IfTold old now (λ before after. HoldsTiles (scene_of after layout) words)
holds_from layout words old now are distinct put =
    told_weaker old now (ArePut (made_files layout words)) (λ before after. HoldsTiles (scene_of after layout) words)
    (λ before after all. made_files_hold_the_tiles layout words after are (have_made_files layout words before after distinct all)) put

-- the words of an occupancy with the scheme and the levels of a layout
pub same_whole : (scheme same : Scheme) (levels n : ℕ) (words : List ℕ) → scheme ≡ same → levels ≡ n → IsOccupancy scheme levels words → IsOccupancy same n words
same_whole scheme same levels n words one other whole = subst (λ s. IsOccupancy s n words) one (subst (λ l. IsOccupancy scheme l words) other whole)
