-- What a command promises (this project's own). Each command's page makes one such record.
use Rattle.std.specs.Prelude.{ℕ, ◌≡◌, Bool, List, Option, Result}
use Rattle.implicit_tiling.specs.Files.{Files}
use Rattle.program_status.specs.declared.status.Status.{Status}
use Rattle.commands.specs.Replies.{Reply}

pub record Promise : Type 1 where
  -- the reply, or the status that comes before anything is given: over the files of the source where it reads any,
  -- and then only where they are told
  pub reply : Option Files → Option (Result Reply Status)
  -- the statuses with which it may end, whatever is told
  pub ends : List Status
  -- whether it may fetch files of the source, put files into the keeper, and take bytes of the inlet
  pub reads : Bool
  pub puts : Bool
  pub takes : Bool
  -- what it leaves of the files that were kept, where they are told, when it ends with a status
  pub leaves : Option Files → Option Files → Status → Type 0
  -- what stands among the files that are kept by the time that any text is given
  pub first : Option Files → Option Files → Option (List ℕ) → Option (List ℕ) → Type 0
  -- what is given where the text depends on the input and on fetches that fail: by the files that are told, what the inlet
  -- had left and has, what was given before and now, the source's count of faults before and now, and the status
  pub plays : Option Files → Option (List ℕ) → Option (List ℕ) → Option (List ℕ) → Option (List ℕ) → ℕ → ℕ → Status → Type 0

-- all files that were kept stay as they were
abbrev pub LeavesAll : Option Files → Option Files → Status → Type 0
LeavesAll before now status = now ≡ before

-- the text depends on neither
abbrev pub PlaysNothing : Option Files → Option (List ℕ) → Option (List ℕ) → Option (List ℕ) → Option (List ℕ) → ℕ → ℕ
    → Status → Type 0
PlaysNothing told left leaves before now faults rose status = Unit {0}

-- no file has to stand before the text
abbrev pub NeedsNoFile : Option Files → Option Files → Option (List ℕ) → Option (List ℕ) → Type 0
NeedsNoFile kept keeps before now = Unit {0}
