-- What the workers of a batch do, and what is written of it (this project's own).
use Rattle.std.specs.Prelude.{ℕ, ◌≡◌, ◌<◌, ◌≤◌, false, List, [], ◌∷◌, ◌++◌, length, map, slice_index_or, Option}
use Rattle.std.specs.Io.KnownBytes.{Appends}
use Rattle.implicit_tiling.specs.Files.{Files}
use Rattle.implicit_tiling.specs.Region.{Plan}
use Rattle.implicit_tiling.specs.Scene.{Layout}
use Rattle.scene_ports.specs.Counts.{Rose}
use Rattle.scene_ports.specs.Output.{GivesFront}
use Rattle.batch_blocks.specs.Workers.{of_worker, RoseBy}
use Rattle.batch_blocks.specs.Blocks.{Block, AreBlocks, text_of_blocks, failures, answered_plans}
use Rattle.batch_blocks.specs.Replies.{blocks_of, AreRepliesTo}
use Rattle.batch_blocks.specs.declared.reply.Reply.{Reply}
use Rattle.batch_blocks.specs.declared.reply.Reply.TheVariants as reply
use Rattle.batch_run.specs.Desks.{DeskSeen, Viewed, IsReady, walked_of}

-- By the counts of faults of its source and the lists of what its pass walked, before and now: each block that tells
-- of a failed read has a fault of the source of its own, and each answer was walked whole, in the order of the blocks,
-- and nothing else was
pub record HasAnswered {W : Type 0} (whole : Plan → W) (layout : Layout) (blocks : List Block) (faults_before faults_now : ℕ) (before now : List W) : Type 0 where
  pub failed : RoseBy (failures blocks) faults_before faults_now
  pub walked : now ≡ before ++ map whole (answered_plans layout blocks)

-- One block for each of these lines, in their order, was given, and nothing else, where the workers have the lines of
-- their turns: for each block that tells of a failed read the source of its worker has counted a fault, and each
-- answer was walked by the pass of its worker
pub record IsBatch {S P W : Type 0} (faults : S → ℕ) (walked : P → List W) (whole : Plan → W) (scene : Viewed P) (lines : List (List ℕ)) (old new : List (DeskSeen S P W)) (before now : Option (List ℕ)) : Type 0 where
  pub blocks : List Block
  pub of_lines : AreBlocks scene.told scene.layout lines blocks
  pub given : Appends before now (text_of_blocks blocks)
  pub workers : (w : ℕ) (d : DeskSeen S P W) → w < length old → HasAnswered whole scene.layout
      (of_worker (length old) w 0 blocks) (faults (slice_index_or old w d).source)
      (faults (slice_index_or new w d).source) (walked_of walked (slice_index_or old w d).pass)
      (walked_of walked (slice_index_or new w d).pass)

-- some front of such blocks was given
pub record IsBatchBegun {S P W : Type 0} (faults : S → ℕ) (scene : Viewed P) (lines : List (List ℕ)) (old new : List (DeskSeen S P W)) (before now : Option (List ℕ)) : Type 0 where
  pub blocks : List Block
  pub of_lines : AreBlocks scene.told scene.layout lines blocks
  pub given : GivesFront before now (text_of_blocks blocks)
  pub workers : (w : ℕ) (d : DeskSeen S P W) → w < length old
      → RoseBy (failures (of_worker (length old) w 0 blocks)) (faults (slice_index_or old w d).source)
      (faults (slice_index_or new w d).source)

-- what the workers leave: each desk its pass, and the source tells what it told; a count of faults doesn't fall, and
-- what was taken out before isn't touched
pub record IsLeftReady {S P W : Type 0} (told : S → Option Files) (faults : S → ℕ) (scene : Viewed P) (old new : DeskSeen S P W) : Type 0 where
  pub ready : IsReady told scene new
  pub later : faults old.source ≤ faults new.source
  pub shown : new.shown ≡ old.shown

abbrev pub AreLeftReady : {S P W : Type 0} → (S → Option Files) → (S → ℕ) → Viewed P → List (DeskSeen S P W) → List (DeskSeen S P W) → Type 0
AreLeftReady {S} {P} {W} told faults scene old new = (length new ≡ length old) × ((w : ℕ) (d : DeskSeen S P W)
    → w < length old → IsLeftReady told faults scene (slice_index_or old w d) (slice_index_or new w d))

-- ---- for one plan

-- a failed read has counted a fault, and an answer was walked whole
abbrev pub HasAnsweredPlan : {W : Type 0} → (Plan → W) → Plan → ℕ → ℕ → List W → List W → Reply → Type 0
HasAnsweredPlan whole plan faults_before faults_now before now (reply.Refused number) = ⊥
HasAnsweredPlan whole plan faults_before faults_now before now reply.ReadFault = Rose faults_before faults_now
    × (now ≡ before)
HasAnsweredPlan whole plan faults_before faults_now before now (reply.Whole end words) = (faults_before ≤ faults_now)
    × (now ≡ before ++ whole plan ∷ [])

-- ---- for one round

-- a worker has answered its lines of a round at its desk, unless memory was wanting
pub record HasWorked {S P W : Type 0} (told : S → Option Files) (faults : S → ℕ) (walked : P → List W) (whole : Plan → W) (scene : Viewed P) (lines : List (List ℕ)) (workers worker : ℕ) (old new : DeskSeen S P W) : Type 0 where
  pub replies : new.lacks_memory ≡ false → AreRepliesTo scene.told scene.layout (of_worker workers worker 0 lines)
      new.replies
  pub answered : new.lacks_memory ≡ false → HasAnswered whole scene.layout
      (blocks_of scene.layout (of_worker workers worker 0 lines) new.replies) (faults old.source) (faults new.source)
      (walked_of walked old.pass) (walked_of walked new.pass)
  pub left : IsLeftReady told faults scene old new

-- the replies to the lines of a round, each at the desk of its worker
pub record HasReplies {S P W : Type 0} (scene : Viewed P) (lines : List (List ℕ)) (desks : List (DeskSeen S P W)) (replies : List Reply) : Type 0 where
  pub each : AreRepliesTo scene.told scene.layout lines replies
  pub at_desks : (w : ℕ) (d : DeskSeen S P W) → w < length desks
      → (slice_index_or desks w d).replies ≡ of_worker (length desks) w 0 replies

-- all is the same but the replies
abbrev pub SameButReplies : {S P W : Type 0} → List (DeskSeen S P W) → List (DeskSeen S P W) → Type 0
SameButReplies {S} {P} {W} old new = (length new ≡ length old) × ((w : ℕ) (d : DeskSeen S P W) → w < length old
    → slice_index_or new w d ≡ record (slice_index_or old w d) { replies = (slice_index_or new w d).replies })
