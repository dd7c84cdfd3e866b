-- The replies of a worker, and the blocks that they become (this project's own).
use Rattle.std.specs.Prelude.{ℕ, Bool, true, false, List, [], ◌∷◌, Option, IfSome}
use Rattle.implicit_tiling.specs.Files.{Files}
use Rattle.implicit_tiling.specs.Region.{Plan}
use Rattle.implicit_tiling.specs.Scene.{Layout}
use Rattle.implicit_tiling.specs.Text.{refused_text, words_text}
use Rattle.implicit_tileset.specs.Scene.{scene_of}
use Rattle.tile_coords.specs.Ends.{end_seen}
use Rattle.tile_word.specs.Answers.{IsAnswer}
use Rattle.subtree_outcome.specs.Found.{AreTilesOf, EndsWithin}
use Rattle.batch_blocks.specs.declared.reply.Reply.{Reply}
use Rattle.batch_blocks.specs.declared.reply.Reply.TheVariants.{Refused, ReadFault, Whole}
use Rattle.batch_blocks.specs.Blocks.{Block, IsBlock, read_fault_text}

-- whether a reply tells that a read failed
abbrev pub tells_failure : Reply → Bool
tells_failure (Refused number) = false
tells_failure ReadFault = true
tells_failure (Whole end words) = false

-- the text that a reply becomes
abbrev pub reply_text : Layout → Reply → List ℕ
reply_text layout (Refused number) = refused_text number
reply_text layout ReadFault = read_fault_text
reply_text layout (Whole end words) = words_text layout words.items (end_seen layout.scheme end)

-- the block that a reply to a line becomes
abbrev pub block_of : Layout → List ℕ → Reply → Block
block_of layout line reply = record { line = line; failed = tells_failure reply; text = reply_text layout reply }

-- what is written of a reply is of tiles of the layout
abbrev pub IsOfLayout : Layout → Reply → Type 0
IsOfLayout layout (Refused number) = Unit {0}
IsOfLayout layout ReadFault = Unit {0}
IsOfLayout layout (Whole end words) = AreTilesOf layout words.items × EndsWithin layout end

-- the reply to a line
pub record IsReplyTo (told : Option Files) (layout : Layout) (line : List ℕ) (reply : Reply) : Type 0 where
  pub of_layout : IsOfLayout layout reply
  pub block : IsBlock told layout (block_of layout line reply)

-- one reply to each of these lines, in their order
abbrev pub AreRepliesTo : Option Files → Layout → List (List ℕ) → List Reply → Type 0
AreRepliesTo told layout [] [] = Unit {0}
AreRepliesTo told layout [] (reply ∷ replies) = ⊥
AreRepliesTo told layout (line ∷ lines) [] = ⊥
AreRepliesTo told layout (line ∷ lines) (reply ∷ replies) = IsReplyTo told layout line reply
    × AreRepliesTo told layout lines replies

-- their blocks
abbrev pub blocks_of : Layout → List (List ℕ) → List Reply → List Block
blocks_of layout [] replies = []
blocks_of layout (line ∷ lines) [] = []
blocks_of layout (line ∷ lines) (reply ∷ replies) = block_of layout line reply ∷ blocks_of layout lines replies

-- the reply to a plan: the answer, where the files are told that of the files, or that a read failed
abbrev pub IsReplyToPlan : Option Files → Layout → Plan → Reply → Type 0
IsReplyToPlan told layout plan (Refused number) = ⊥
IsReplyToPlan told layout plan ReadFault = Unit {0}
IsReplyToPlan told layout plan (Whole end words) = AreTilesOf layout words.items × EndsWithin layout end
    × IfSome told (λ all. IsAnswer (scene_of all layout) plan.region words.items end)
