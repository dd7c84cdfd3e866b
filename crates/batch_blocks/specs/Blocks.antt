-- What a batch writes: one block for each line of its input, in input order (this project's own).
use Rattle.std.specs.Prelude.{ℕ, ◌≡◌, Bool, true, false, List, [], ◌∷◌, length, map, filter, codes, Option, Some, None}
use Rattle.std.specs.Prelude.{Result, Ok, Err}
use Rattle.std.specs.List.{All, filter_map, flat_map}
use Rattle.std.specs.Io.KnownBytes.{Appends}
use Rattle.implicit_tiling.specs.Files.{Files}
use Rattle.implicit_tiling.specs.Region.{Plan}
use Rattle.implicit_tiling.specs.Request.{line_of, plan_of_line}
use Rattle.implicit_tiling.specs.Scene.{Layout}
use Rattle.implicit_tiling.specs.Text.{line, text_of, refused_text, words_text}
use Rattle.implicit_tileset.specs.Scene.{scene_of}
use Rattle.scene_ports.specs.Output.{GivesFront}
use Rattle.tile_coords.specs.Ends.{end_seen}
use Rattle.tile_coords.specs.declared.walk_end.WalkEnd.{WalkEnd}
use Rattle.subtree_outcome.specs.Found.{AreTilesOf, EndsWithin}
use Rattle.request_text.specs.Input.{input_lines}

-- the block of a line: its text, and whether that tells that a read failed
pub record Block : Type 0 where
  pub line : List ℕ
  pub failed : Bool
  pub text : List ℕ

-- the text of a line for which a read failed
abbrev pub read_fault_text : List ℕ
read_fault_text = line (codes "read-fault" ∷ [])

-- the text of a plan's answer: that of the files, where they are told, and else that of some tiles of the layout and
-- an end
abbrev pub IsAnswerText : Option Files → Layout → Plan → List ℕ → Type 0
IsAnswerText (Some files) layout plan text = text ≡ text_of (scene_of files layout) (Ok plan)
IsAnswerText None layout plan text = (words : List ℕ) × (end : WalkEnd) × AreTilesOf layout words
    × EndsWithin layout end × (text ≡ words_text layout words (end_seen layout.scheme end))

abbrev pub IsTextOfPlan : Option Files → Layout → Plan → Bool → List ℕ → Type 0
IsTextOfPlan told layout plan true text = text ≡ read_fault_text
IsTextOfPlan told layout plan false text = IsAnswerText told layout plan text

-- the text of a line that was read to a plan, or refused
abbrev pub IsTextOfLine : Option Files → Layout → Result Plan ℕ → Bool → List ℕ → Type 0
IsTextOfLine told layout (Ok plan) failed text = IsTextOfPlan told layout plan failed text
IsTextOfLine told layout (Err number) failed text = (failed ≡ false) × (text ≡ refused_text number)

-- the plan of a line over a layout, or the number of the first rule that refuses it
abbrev pub plan_in : Layout → List ℕ → Result Plan ℕ
plan_in layout text = plan_of_line layout.scheme layout.levels (line_of text)

abbrev pub IsBlock : Option Files → Layout → Block → Type 0
IsBlock told layout block = IsTextOfLine told layout (plan_in layout block.line) block.failed block.text

-- one block for each of these lines, in their order
pub record AreBlocks (told : Option Files) (layout : Layout) (lines : List (List ℕ)) (blocks : List Block) : Type 0 where
  pub each : All (IsBlock told layout) blocks
  pub in_order : map (λ block. block.line) blocks ≡ lines

-- the blocks one after another, and nothing else
abbrev pub text_of_blocks : List Block → List ℕ
text_of_blocks blocks = flat_map (λ block. block.text) blocks

-- how many of these blocks tell that a read failed
abbrev pub failures : List Block → ℕ
failures blocks = length (filter (λ block. block.failed) blocks)

-- the plan of a line whose block is an answer
abbrev pub plan_where : Bool → Result Plan ℕ → Option Plan
plan_where true read = None
plan_where false (Ok plan) = Some plan
plan_where false (Err number) = None

abbrev pub answered_plan : Layout → Block → Option Plan
answered_plan layout block = plan_where block.failed (plan_in layout block.line)

-- the plans of these blocks that are answers, in their order
abbrev pub answered_plans : Layout → List Block → List Plan
answered_plans layout blocks = filter_map (answered_plan layout) blocks
