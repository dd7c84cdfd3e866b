-- The texts of answers, refusals and checks: lines with TAB between the parts and LF at the end (this project's own).
use Rattle.std.specs.Prelude.{ℕ, ◌+◌, ◌%◌, ◌/◌, ◌^◌, ◌==◌, List, [], ◌∷◌, ◌++◌, length, codes, Bool, true, false}
use Rattle.std.specs.Prelude.{Result, Ok, Err, if◌then◌else◌}
use Rattle.std.specs.List.{flat_map, join_with_byte}
use Rattle.std.specs.Fmt.{decimal}
use Rattle.implicit_tiling.specs.declared.Scheme.{Scheme}
use Rattle.implicit_tiling.specs.declared.Scheme.TheVariants.{Quad, Oct}
use Rattle.implicit_tiling.specs.Tile.{Tile}
use Rattle.implicit_tiling.specs.Region.{Plan}
use Rattle.implicit_tiling.specs.Template.{filled}
use Rattle.implicit_tiling.specs.Scene.{Layout, Scene}
use Rattle.implicit_tiling.specs.Availability.{mask}
use Rattle.implicit_tiling.specs.Code.{word_tile, word_mask}
use Rattle.implicit_tiling.specs.Steps.{StepEnd, partial, ended}
use Rattle.implicit_tiling.specs.Checked.{Checked}
use Rattle.implicit_tiling.specs.Answer.{End, complete, too_many, fault, Answer, answer}

abbrev pub line : List (List ℕ) → List ℕ
line parts = join_with_byte 9 parts ++ 10 ∷ []

-- level, x, y and in octrees z
abbrev pub coordinate_texts : Scheme → Tile → List (List ℕ)
coordinate_texts Quad t = decimal t.level ∷ decimal t.x ∷ decimal t.y ∷ []
coordinate_texts Oct t = decimal t.level ∷ decimal t.x ∷ decimal t.y ∷ decimal t.z ∷ []

-- the templates whose bit of the mask is 1, filled, in order
abbrev pub content_texts : Scheme → Tile → ℕ → ℕ → List (List ℕ) → List (List ℕ)
content_texts scheme t m c [] = []
content_texts scheme t m c (template ∷ templates) =
    if m / 2 ^ c % 2 == 1 then filled scheme template t ∷ content_texts scheme t m
    (c + 1) templates else content_texts scheme t m (c + 1) templates

-- the line of a tile with the contents of a mask
abbrev pub tile_line : Layout → Tile → ℕ → List ℕ
tile_line layout t m = line (coordinate_texts layout.scheme t ++ content_texts layout.scheme t m 0 layout.contents)

abbrev pub end_line : Scheme → ℕ → End → List ℕ
end_line scheme n complete = line (codes "end" ∷ codes "complete" ∷ decimal n ∷ [])
end_line scheme n too_many = line (codes "end" ∷ codes "too-many" ∷ decimal n ∷ [])
end_line scheme n (fault r k) = line (codes "end" ∷ codes "fault" ∷ decimal n ∷ decimal k ∷ coordinate_texts scheme r)

abbrev pub answer_text : Scene → Answer → List ℕ
answer_text s a = flat_map (λ t. tile_line s.layout t (mask s t)) a.tiles
    ++ end_line s.layout.scheme (length a.tiles) a.end

-- the same text by the words of the tiles
abbrev pub word_line : Layout → ℕ → List ℕ
word_line layout w = tile_line layout (word_tile layout.scheme w) (word_mask w)

-- the end line of a walk that goes on, or has ended
abbrev pub step_end_line : Scheme → ℕ → StepEnd → List ℕ
step_end_line scheme n partial = line (codes "end" ∷ codes "partial" ∷ decimal n ∷ [])
step_end_line scheme n (ended end) = end_line scheme n end

abbrev pub words_text : Layout → List ℕ → StepEnd → List ℕ
words_text layout words end = flat_map (word_line layout) words ++ step_end_line layout.scheme (length words) end

abbrev pub refused_text : ℕ → List ℕ
refused_text k = line (codes "refused" ∷ decimal k ∷ [])

-- the text of a line that was read to a plan, or refused
abbrev pub text_of : Scene → Result Plan ℕ → List ℕ
text_of s (Ok plan) = answer_text s (answer s plan.region)
text_of s (Err k) = refused_text k

-- the text of a check: a line for each fault, and an end line
abbrev pub fault_line : Scheme → Tile × ℕ → List ℕ
fault_line scheme found = line (codes "fault" ∷ decimal found.1 ∷ coordinate_texts scheme found.0)

abbrev pub check_end_line : Bool → ℕ → ℕ → List ℕ
check_end_line true looked faults = line (codes "end" ∷ codes "too-many" ∷ decimal looked ∷ decimal faults ∷ [])
check_end_line false looked faults = line (codes "end" ∷ codes "checked" ∷ decimal looked ∷ decimal faults ∷ [])

abbrev pub checked_text : Scheme → Checked → List ℕ
checked_text scheme c = flat_map (fault_line scheme) c.faults ++ check_end_line c.more (length c.looked)
    (length c.faults)
