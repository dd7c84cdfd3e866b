-- What words ask of several workers (this project's own).
use Rattle.std.specs.Prelude.{ℕ, List, [], ◌∷◌, Option, Some, None}
use Rattle.program_status.specs.declared.status.Status.{Status}
use Rattle.program_status.specs.declared.status.Status.TheVariants.{Usage, Memory}
use Rattle.commands.specs.Commands.{Wish, tiles, check, make, survey, replay, batch, serve}
use Rattle.shared_commands.specs.Batch.{batch_ends}

-- a batch by so many workers and frames
pub record BatchWish : Type 0 where
  pub workers : ℕ
  pub frames : ℕ

-- the batch that is asked for, where it is one
abbrev pub batch_wish : Wish → Option BatchWish
batch_wish (tiles line) = None
batch_wish check = None
batch_wish (make recipe) = None
batch_wish (survey recipe) = None
batch_wish (replay frames passes) = None
batch_wish (batch workers frames) = Some (record { workers = workers; frames = frames })
batch_wish (serve port viewers frames) = None

abbrev pub batch_asked_for : Option Wish → Option BatchWish
batch_asked_for None = None
batch_asked_for (Some wish) = batch_wish wish

-- The statuses with which it may end. Words that ask for no batch are a usage fault, but where there is no memory to
-- read them, and a batch ends with no usage fault
abbrev pub shared_ends : Option BatchWish → List Status
shared_ends None = Usage ∷ Memory ∷ []
shared_ends (Some wish) = batch_ends
