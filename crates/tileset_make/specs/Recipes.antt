-- The tileset that is generated from a recipe: its layout, its tiles and its files, and what a survey of it finds (this
-- project's own).
use Rattle.std.specs.Prelude.{ℕ, nat_lt, Bool, List, [], ◌∷◌, ◌++◌, length, take, map, sum_by, codes, count_ones}
use Rattle.std.specs.List.{range_with_len}
use Rattle.std.specs.Fmt.{decimal}
use Rattle.implicit_tiling.specs.declared.Scheme.{Scheme}
use Rattle.implicit_tiling.specs.declared.Scheme.TheVariants.{Quad, Oct}
use Rattle.implicit_tiling.specs.Files.{Files}
use Rattle.implicit_tiling.specs.Scene.{Layout}
use Rattle.implicit_tiling.specs.Answer.{most_tiles}
use Rattle.implicit_tiling.specs.Code.{word_mask}
use Rattle.tileset_write.specs.LayoutText.{layout_text}
use Rattle.tile_occupancy.specs.Generated.{generated_words}
use Rattle.build_laws.specs.Made.{made_files}
use Rattle.tileset_make.specs.declared.recipe.Recipe.{Recipe}

-- ---- the layout

abbrev pub subtree_template : Scheme → List ℕ
subtree_template Quad = codes "s.{level}.{x}.{y}.subtree"
subtree_template Oct = codes "s.{level}.{x}.{y}.{z}.subtree"

abbrev pub content_end : Scheme → List ℕ
content_end Quad = codes ".{level}.{x}.{y}.glb"
content_end Oct = codes ".{level}.{x}.{y}.{z}.glb"

abbrev pub content_template : Scheme → ℕ → List ℕ
content_template scheme c = codes "c" ++ decimal c ++ content_end scheme

abbrev pub content_templates : Scheme → ℕ → List (List ℕ)
content_templates scheme contents = map (content_template scheme) (range_with_len 0 contents)

abbrev pub recipe_layout : Recipe → Layout
recipe_layout r = record {
  scheme = r.scheme;
  subtree_levels = r.subtree_levels;
  levels = r.levels;
  subtree = subtree_template r.scheme;
  contents = content_templates r.scheme r.contents;
}

-- ---- the tiles, and the files with `tileset.json` as the last

abbrev pub recipe_words : Recipe → List ℕ
recipe_words r = generated_words r.scheme r.levels r.contents r.points r.number

abbrev pub tileset_files : Layout → List ℕ → Files
tileset_files layout words = made_files layout words ++ (codes "tileset.json", layout_text layout) ∷ []

abbrev pub recipe_files : Recipe → Files
recipe_files r = tileset_files (recipe_layout r) (recipe_words r)

-- ---- what a survey finds: the files, the tiles, those of an answer for all of them, their contents, and whether there are
-- more than an answer holds

pub record Found : Type 0 where
  pub files : ℕ
  pub tiles : ℕ
  pub listed : ℕ
  pub contents : ℕ
  pub more : Bool

abbrev pub survey_of : Recipe → Found
survey_of r = record {
  files = length (recipe_files r);
  tiles = length (recipe_words r);
  listed = length (take most_tiles (recipe_words r));
  contents = sum_by (λ w. count_ones (word_mask w)) (take most_tiles (recipe_words r));
  more = nat_lt most_tiles (length (recipe_words r));
}
