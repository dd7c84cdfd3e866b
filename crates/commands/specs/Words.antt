-- The words behind a command's name, and the forms that several commands share (this project's own).
use Rattle.std.specs.Prelude.{ℕ, Bool, false, ◌==◌, ◌&&◌, nat_le, List, [], ◌∷◌, codes, Option, Some, None, option_and_then}
use Rattle.std.specs.Prelude.{if◌then◌else◌}
use Rattle.std.specs.List.{list_any}
use Rattle.std.specs.Str.{bytes_eq}
use Rattle.implicit_tiling.specs.declared.Scheme.{Scheme}
use Rattle.implicit_tiling.specs.declared.Scheme.TheVariants.{Quad, Oct}
use Rattle.frame_pool.specs.Frames.{most_frames}
use Rattle.implicit_tiling.specs.Request.{number, numbers}
use Rattle.tileset_make.specs.Chosen.{recipe_of}
use Rattle.tileset_make.specs.declared.recipe.Recipe.{Recipe}

-- the words without the first that is `--`
abbrev pub without_dashes : List (List ℕ) → List (List ℕ)
without_dashes [] = []
without_dashes (word ∷ words) = if bytes_eq word (codes "--") then words else word ∷ without_dashes words

-- one of the words begins with a hyphen
abbrev pub begins_with_hyphen : List ℕ → Bool
begins_with_hyphen [] = false
begins_with_hyphen (c ∷ cs) = c == 45

abbrev pub has_hyphen : List (List ℕ) → Bool
has_hyphen words = list_any begins_with_hyphen words

-- ---- numbers of seats, frames and ports

-- the most passes, viewers and workers, of each of which there is at least one
abbrev pub most_seats : ℕ
most_seats = 64

-- the last port
abbrev pub last_port : ℕ
last_port = 65535

-- the number that a word writes, of 1 to a last one
abbrev pub number_to : ℕ → List ℕ → Option ℕ
number_to last word = option_and_then (λ n. if nat_le 1 n && nat_le n last then Some n else None) (number word)

abbrev pub seats_of_word : List ℕ → Option ℕ
seats_of_word word = number_to most_seats word

abbrev pub frames_of_word : List ℕ → Option ℕ
frames_of_word word = number_to most_frames word

abbrev pub port_of_word : List ℕ → Option ℕ
port_of_word word = number_to last_port word

-- ---- SCHEME LEVELS SUBTREE CONTENTS POINTS NUMBER

abbrev pub scheme_of_word : List ℕ → Option Scheme
scheme_of_word word = if bytes_eq word (codes "quadtree") then Some Quad else
    (if bytes_eq word (codes "octree") then Some Oct else None)

-- five numbers, each in its range
abbrev pub recipe_of_numbers : Scheme → List ℕ → Option Recipe
recipe_of_numbers scheme (levels ∷ subtree_levels ∷ contents ∷ points ∷ number ∷ []) = recipe_of scheme levels
    subtree_levels contents points number
recipe_of_numbers scheme others = None

-- a scheme, and words of the form of a number
abbrev pub recipe_of_words : List (List ℕ) → Option Recipe
recipe_of_words [] = None
recipe_of_words (scheme ∷ words) = option_and_then (λ s. option_and_then (recipe_of_numbers s) (numbers words))
    (scheme_of_word scheme)
