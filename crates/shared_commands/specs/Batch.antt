-- `batch`: the answers to the lines of an input, by several workers over one scene (this project's own).
use Rattle.std.specs.Prelude.{ℕ, ◌≡◌, ◌<◌, ◌≤◌, List, [], ◌∷◌, length, slice_index_or, Option, IfSome, Result, Ok, Err}
use Rattle.std.specs.Io.KnownBytes.{Appends}
use Rattle.implicit_tiling.specs.Files.{Files}
use Rattle.implicit_tiling.specs.Scene.{Layout}
use Rattle.implicit_tileset.specs.Scene.{layout_in}
use Rattle.scene_ports.specs.Output.{GivesFront}
use Rattle.program_status.specs.Sets.{IsOneOf, layout_faults}
use Rattle.program_status.specs.declared.status.Status.{Status}
use Rattle.program_status.specs.declared.status.Status.TheVariants.{Done, BadLayout, ReadFault, WriteFault}
use Rattle.program_status.specs.declared.status.Status.TheVariants.{InputFault, Memory, InputLong}
use Rattle.request_text.specs.Input.{input_lines}
use Rattle.input_bytes.specs.Input.{IsWhole, most_input_bytes}
use Rattle.viewer_session.specs.declared.pass.Walked.TheVariants.{Whole}
use Rattle.batch_blocks.specs.Blocks.{Block, AreBlocks, text_of_blocks, failures}
use Rattle.batch_blocks.specs.Workers.{of_worker, RoseBy}
use Rattle.batch_run.specs.Batches.{HasAnswered}
use Rattle.shared_commands.specs.Desks.{Place}

-- The layout of the files, where they are told, and the bytes of the input, of which nothing is left
pub record HasRead (files : Option Files) (left left_now : Option (List ℕ)) : Type 0 where
  pub layout : Layout
  pub of_files : IfSome files (λ all. layout_in all ≡ Ok layout)
  pub input : List ℕ
  pub whole : IsWhole left left_now input
  pub few : length input ≤ most_input_bytes

-- One block for each line of the input, in input order, was given, and nothing else. For each block that tells of a
-- failed read the source of its worker has counted a fault of its own, and what is shown of a worker is just that it
-- has walked each of its answers whole, in the order of the blocks
pub record HasGivenAll {S : Type 0} (faults : S → ℕ) (files : Option Files) (layout : Layout) (input : List ℕ) (old new : List (Place S)) (before now : Option (List ℕ)) : Type 0 where
  pub blocks : List Block
  pub of_lines : AreBlocks files layout (input_lines input) blocks
  pub given : Appends before now (text_of_blocks blocks)
  pub workers : (w : ℕ) (d : Place S) → w < length old → HasAnswered Whole layout (of_worker (length old) w 0 blocks)
      (faults (slice_index_or old w d).source) (faults (slice_index_or new w d).source) []
      (slice_index_or new w d).shown

-- some front of such blocks was given
pub record HasGivenSome {S : Type 0} (faults : S → ℕ) (files : Option Files) (layout : Layout) (input : List ℕ) (old new : List (Place S)) (before now : Option (List ℕ)) : Type 0 where
  pub blocks : List Block
  pub of_lines : AreBlocks files layout (input_lines input) blocks
  pub given : GivesFront before now (text_of_blocks blocks)
  pub workers : (w : ℕ) (d : Place S) → w < length old
      → RoseBy (failures (of_worker (length old) w 0 blocks)) (faults (slice_index_or old w d).source)
      (faults (slice_index_or new w d).source)

-- the headline: the whole input was answered
abbrev pub HasAnsweredInput : {S : Type 0} → (S → ℕ) → Option Files → List (Place S) → List (Place S) → Option (List ℕ) → Option (List ℕ) → Option (List ℕ) → Option (List ℕ) → Type 0
HasAnsweredInput faults files old new left left_now before now = (read : HasRead files left left_now)
    × HasGivenAll faults files read.layout read.input old new before now

-- the answer was begun, of the whole input
abbrev pub HasBegunAnswer : {S : Type 0} → (S → ℕ) → Option Files → List (Place S) → List (Place S) → Option (List ℕ) → Option (List ℕ) → Option (List ℕ) → Option (List ℕ) → Type 0
HasBegunAnswer faults files old new left left_now before now = (read : HasRead files left left_now)
    × HasGivenSome faults files read.layout read.input old new before now

-- ---- the statuses

-- the statuses with which it may end, whatever is told
abbrev pub batch_ends : List Status
batch_ends = Done ∷ WriteFault ∷ InputFault ∷ InputLong ∷ ReadFault ∷ Memory ∷ layout_faults

-- The same by the layout of the files, or the number of the first fault of `tileset.json`. That fault comes before all
-- that is done, but for a failed read of the file and want of memory
abbrev pub ends_over : Result Layout ℕ → List Status
ends_over (Ok layout) = Done ∷ WriteFault ∷ InputFault ∷ InputLong ∷ ReadFault ∷ Memory ∷ []
ends_over (Err number) = BadLayout number ∷ ReadFault ∷ Memory ∷ []

-- the statuses that come before anything is taken of the input
abbrev pub IsBeforeInput : Status → Type 0
IsBeforeInput = IsOneOf (ReadFault ∷ layout_faults)

-- the statuses that come before the first line is answered: of the files, only `tileset.json` was asked for
abbrev pub IsBeforeLines : Status → Type 0
IsBeforeLines = IsOneOf (ReadFault ∷ InputFault ∷ InputLong ∷ layout_faults)

-- ---- for inner functions: the statuses that come before the first line is answered, and want of memory
abbrev pub early_ends : List Status
early_ends = InputFault ∷ InputLong ∷ ReadFault ∷ Memory ∷ layout_faults
