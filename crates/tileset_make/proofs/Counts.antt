-- How many files a tileset has.
use Rattle.std.proofs.Common.{◌≡◌, ℕ, ◌+◌, ◌≤◌, List, [], ◌∷◌, ◌∙◌, length, codes, length-append, arith, ap, refl}
use Rattle.std.specs.Prelude.{not}
use Rattle.std.proofs.lemmas.List.{length-map}
use Rattle.std.proofs.lemmas.List.Filters.{length-filter_both}
use Rattle.implicit_tiling.specs.Availability.{is_subtree_root}
use Rattle.implicit_tiling.specs.Scene.{Layout}
use Rattle.implicit_tileset.specs.Scene.{subtree_name}
use Rattle.subtree_write.specs.Canonical.{canonical}
use Rattle.tileset_write.specs.LayoutText.{layout_text}
use Rattle.tile_occupancy.specs.Occupied.{tiles_of}
use Rattle.tile_occupancy.proofs.Keys.{places}
use Rattle.build_laws.specs.Made.{made_subtree, made_roots, made_files}
use Rattle.tileset_make.specs.Recipes.{tileset_files}

-- one for each root that has a subtree file, and `tileset.json`
pub length-tileset_files : (layout : Layout) (words : List ℕ) → length (tileset_files layout words) ≡ length (made_roots layout words) + 1
length-tileset_files layout words =
    length-append (made_files layout words) ((codes "tileset.json", layout_text layout) ∷ [])
    ∙ ap (λ n. n + 1) (length-map (made_roots layout words) (λ r. (subtree_name layout r, canonical (made_subtree layout words r))))

-- no more roots than tiles, but for the root of none
pub few_roots : (layout : Layout) (words : List ℕ) (most : ℕ) → 1 ≤ most → length words ≤ most → length (made_roots layout words) ≤ most
few_roots layout [] most some few = omega arith
few_roots layout (w ∷ words) most some few =
    omega (
      arith,
      few,
      places layout.scheme (w ∷ words),
      length-filter_both (is_subtree_root layout) (λ t. not (is_subtree_root layout t)) (λ t. refl) (tiles_of layout.scheme (w ∷ words)),
    )
