-- The recipe of some numbers (this project's own).
use Rattle.std.specs.Prelude.{ℕ, ◌≡◌, refl, Bool, true, false, Option, Some, None}
use Rattle.implicit_tiling.specs.declared.Scheme.{Scheme}
use Rattle.tileset_make.specs.Ranges.{is_in_range, IsInRange-from_test}
use Rattle.tileset_make.specs.declared.recipe.Recipe.{Recipe}

-- what is made where a test holds
abbrev pub made_if : {X : Type 0} (test : Bool) → (test ≡ true → X) → Option X
made_if true make = Some (make refl)
made_if false make = None

-- these numbers as a recipe, where each is in its range
abbrev pub recipe_of : Scheme → ℕ → ℕ → ℕ → ℕ → ℕ → Option Recipe
recipe_of scheme levels subtree_levels contents points number =
    made_if (is_in_range scheme levels subtree_levels contents points) (λ inside. record {
      scheme = scheme;
      levels = levels;
      subtree_levels = subtree_levels;
      contents = contents;
      points = points;
      number = number;
      in_range = IsInRange-from_test scheme levels subtree_levels contents points inside;
    })
