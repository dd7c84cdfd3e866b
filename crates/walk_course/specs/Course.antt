-- The course of a walk: its words, heads and paused walks, where files are told and where they are not (this project's
-- own).
use Rattle.std.specs.Prelude.{ℕ, ◌≡◌, ◌+◌, ◌<◌, ◌≤◌, ◌^◌, List, length, take, map, Some, slice_get, slice_index, IfSome}
use Rattle.std.specs.List.{flat_map}
use Rattle.implicit_tiling.specs.Region.{Region}
use Rattle.implicit_tiling.specs.Scene.{Scene}
use Rattle.implicit_tiling.specs.Code.{tile_word, word_level}
use Rattle.implicit_tiling.specs.Answer.{most_tiles, answer}
use Rattle.implicit_tiling.specs.Steps.{partial, steps}
use Rattle.implicit_tileset.specs.Scene.{scene_of}
use Rattle.walk_laws.specs.Stepped.{last_end}
use Rattle.tile_word.specs.Roots.{IsRootWord}
use Rattle.tile_coords.specs.Ends.{end_seen}
use Rattle.tile_coords.specs.declared.walk_end.WalkEnd.{WalkEnd}
use Rattle.tile_coords.specs.declared.walk_end.WalkEnd.TheVariants.{Partial}
use Rattle.subtree_outcome.specs.declared.outcome.Outcome.{Outcome}
use Rattle.subtree_outcome.specs.Outcomes.{outcome_seen}
use Rattle.subtree_outcome.specs.Found.{IsTileWord, EndsWithin}
use Rattle.region_cursor.specs.Cursor.{IsWalkOf, next_root}
use Rattle.region_cursor.specs.Walked.{IsAt, IsNextKey}
use Rattle.walk_course.specs.Spread.{places}
use Rattle.walk_course.specs.Walk.{Walk}
use Rattle.walk_course.specs.declared.tag.WalkTag.{WalkTag}

-- the word at a place of the answer
abbrev pub IsAnswerWord : Scene → Region → ℕ → ℕ → Type 0
IsAnswerWord s region place word = slice_get (map (tile_word s) (answer s region).tiles) place ≡ Some word

-- a word of the course: of a tile of the layout, with a mask of its contents; and where files are told, that of the
-- answer
pub record IsWordAt (tag : WalkTag) (place word : ℕ) : Type 0 where
  pub of_layout : IsTileWord tag.layout.scheme tag.layout.levels (length tag.layout.contents) word
  pub of_answer : IfSome tag.told (λ all. IsAnswerWord (scene_of all tag.layout) tag.region place word)

-- the first steps of a walk have so many tiles, and the last of them this end
pub record IsAfter (s : Scene) (region : Region) (made count : ℕ) (end : WalkEnd) : Type 0 where
  pub within : made ≤ length (steps s region)
  pub count_is : count ≡ length (flat_map (λ step. step.tiles) (take made (steps s region)))
  pub end_is : end_seen s.layout.scheme end ≡ last_end partial (take made (steps s region))

-- a head of the course: so many steps gave so many words and this end
pub record IsHead (tag : WalkTag) (made count : ℕ) (end : WalkEnd) : Type 0 where
  pub few_steps : made < 2 ^ 45
  pub few_words : count ≤ most_tiles
  pub in_region : count ≤ places tag.region
  pub of_layout : EndsWithin tag.layout end
  pub at_first : made ≡ 0 → (count ≡ 0) × (end ≡ Partial)
  pub of_steps : IfSome tag.told (λ all. IsAfter (scene_of all tag.layout) tag.region made count end)

-- the walk goes on from a head: it is one of the layout and region, it has made so many steps and given so many words,
-- and answered this end last; and where files are told, its state is the one after these steps
pub record Fits (tag : WalkTag) (made count : ℕ) (end : WalkEnd) (w : Walk) : Type 0 where
  pub of_plan : IsWalkOf tag.layout tag.region w.state
  pub steps_are : w.steps ≡ made
  pub count_is : w.state.count ≡ count
  pub end_is : w.end ≡ end
  pub of_steps : IfSome tag.told (λ all. IsAt (scene_of all tag.layout) tag.region made w.state)

-- the word of a root of the layout; and where files are told, that of the next step
pub record IsNextRoot (tag : WalkTag) (made key : ℕ) : Type 0 where
  pub of_layout : IsRootWord tag.layout (word_level key) key
  pub of_steps : IfSome tag.told (λ all. IsNextKey (scene_of all tag.layout) tag.region made (Some key))

-- what was read of the next root's file is what the files say, where they are told
abbrev pub IsToldFor : WalkTag → Walk → Outcome → Type 0
IsToldFor tag w found = IfSome tag.told
    (λ all. (scene_of all tag.layout).outcome (next_root w.state) ≡ outcome_seen found)

-- one step more: its words stand from the length on, and the walk goes on from the head that they make
pub record MakesStep (tag : WalkTag) (made count : ℕ) (words : List ℕ) (end : WalkEnd) (after : Walk) : Type 0 where
  pub words_are : (i : ℕ) → i < length words → IsWordAt tag (count + i) (slice_index words i)
  pub head : IsHead tag (made + 1) (count + length words) end
  pub fits : Fits tag (made + 1) (count + length words) end after
