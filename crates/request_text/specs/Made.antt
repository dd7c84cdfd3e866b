-- The texts of a tileset that was made and of one that was surveyed: a line each (this project's own).
use Rattle.std.specs.Prelude.{ℕ, List, [], ◌∷◌, codes, Bool, true, false}
use Rattle.std.specs.Fmt.{decimal}
use Rattle.implicit_tiling.specs.Text.{line}

-- how many files were put, and how many tiles they hold
abbrev pub made_text : ℕ → ℕ → List ℕ
made_text files tiles = line (codes "made" ∷ decimal files ∷ decimal tiles ∷ [])

-- whether there are more tiles than an answer holds
abbrev pub survey_state : Bool → List ℕ
survey_state true = codes "too-many"
survey_state false = codes "complete"

-- the files, the tiles, the tiles of the answer for all of them and their contents
abbrev pub survey_text : ℕ → ℕ → ℕ → ℕ → Bool → List ℕ
survey_text files tiles listed contents more = line
    (codes "survey" ∷ decimal files ∷ decimal tiles ∷ decimal listed ∷ decimal contents ∷ survey_state more ∷ [])
