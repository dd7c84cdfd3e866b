-- A worked recipe: its layout, and the names of its files.
use Rattle.std.proofs.Common.{◌≡◌, ℕ, ◌≤◌, List, [], ◌∷◌, map, codes, refl, lit≤}
use Rattle.std.specs.Fmt.{digits}
use Rattle.implicit_tiling.specs.declared.Scheme.TheVariants.{Quad, Oct}
use Rattle.implicit_tiling.specs.Scene.{Layout}
use Rattle.tileset_make.specs.declared.recipe.Recipe.{Recipe}
use Rattle.tileset_make.specs.Recipes.{recipe_layout, recipe_files}

worked : (contents : ℕ) → contents ≤ 16 → Recipe
worked contents few = record {
  scheme = Quad;
  levels = 3;
  subtree_levels = 2;
  contents = contents;
  points = 2;
  number = 1;
  in_range = record {
    some_levels = lit≤ tt;
    few_levels = lit≤ tt;
    some_subtree_levels = lit≤ tt;
    few_subtree_levels = lit≤ tt;
    few_contents = few;
    some_points = lit≤ tt;
    few_points = lit≤ tt;
  };
}

one_content : Recipe
one_content = worked 1 (lit≤ tt)

two_contents : Recipe
two_contents = worked 2 (lit≤ tt)

layout : recipe_layout two_contents ≡ record {
  scheme = Quad;
  subtree_levels = 2;
  levels = 3;
  subtree = codes "s.{level}.{x}.{y}.subtree";
  contents = codes "c0.{level}.{x}.{y}.glb" ∷ codes "c1.{level}.{x}.{y}.glb" ∷ [];
}
unfolding digits two_contents worked
layout = refl

names : map (λ pair. pair.0) (recipe_files one_content) ≡ codes "s.0.0.0.subtree" ∷ codes "s.2.0.2.subtree" ∷ codes "s.2.1.3.subtree" ∷ codes "tileset.json" ∷ []
unfolding digits one_content worked
names = refl
