-- The words of an answer's tiles make its text, so do those of the faulty roots of a check; and the words of a request
-- line are those of the line that they are joined to (this project's own).
use Rattle.std.specs.Prelude.{ℕ, ◌≡◌, ◌<◌, ◌≤◌, List, [], ◌∷◌, length, map, IsSome}
use Rattle.std.specs.List.{join_with_byte}
use Rattle.implicit_tiling.specs.Limits.{most_levels, most_contents}
use Rattle.implicit_tiling.specs.Region.{Region}
use Rattle.implicit_tiling.specs.Scene.{Scene}
use Rattle.implicit_tiling.specs.Answer.{answer}
use Rattle.implicit_tiling.specs.Code.{tile_word}
use Rattle.implicit_tiling.specs.Steps.{ended}
use Rattle.implicit_tiling.specs.Text.{answer_text, words_text, checked_text}
use Rattle.implicit_tiling.specs.Checked.{checked}
use Rattle.implicit_tiling.specs.Request.{line_of, line_of_words}
use Rattle.request_text.specs.Found.{end_of_check, found_text}
use Rattle.tile_coords.specs.Found.{found_of}

-- within the limits, the text by the words of the answer's tiles is the text of the answer
abbrev pub WordsMakeTheText : Type 0
WordsMakeTheText = (s : Scene) (region : Region) → region.level < most_levels s.layout.scheme
    → length s.layout.contents ≤ most_contents
    → words_text s.layout (map (tile_word s) (answer s region).tiles) (ended (answer s region).end)
    ≡ answer_text s (answer s region)

-- within the limits, the text of a check by the words of the faulty roots is the text of the check
abbrev pub FoundMakeTheText : Type 0
FoundMakeTheText = (s : Scene) → s.layout.levels ≤ most_levels s.layout.scheme
    → found_text s.layout.scheme (map (found_of s.layout.scheme) (checked s).faults) (end_of_check (checked s))
    ≡ checked_text s.layout.scheme (checked s)

-- three words that are read to a line are read to the same when they are joined by spaces
abbrev pub JoinedIsItsWords : Type 0
JoinedIsItsWords = (level lo hi : List ℕ) → IsSome (line_of_words (level ∷ lo ∷ hi ∷ []))
    → line_of (join_with_byte 32 (level ∷ lo ∷ hi ∷ [])) ≡ line_of_words (level ∷ lo ∷ hi ∷ [])
