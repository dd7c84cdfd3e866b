-- `replay`: the replies to the script of the input (this project's own).
use Rattle.std.specs.Prelude.{ℕ, ◌≡◌, true, false, List, [], ◌∷◌, Option, Some, None, IfSome, Result, Ok, Err}
use Rattle.std.specs.Io.KnownBytes.{Keeps}
use Rattle.implicit_tiling.specs.Files.{Files}
use Rattle.implicit_tiling.specs.Scene.{Layout, Scene}
use Rattle.implicit_tileset.specs.Scene.{scene_of}
use Rattle.program_status.specs.declared.status.Status.{Status}
use Rattle.program_status.specs.declared.status.Status.TheVariants.{Done, ReadFault, WriteFault, InputFault, Memory, InputLong}
use Rattle.replay_run.specs.Plays.{IsPlay, IsPlayBegun}
use Rattle.commands.specs.Promise.{Promise, LeavesAll, NeedsNoFile}
use Rattle.commands.specs.Replies.{layout_wanted, early_ends}

-- What was given with a status, over a scene, where the inlet told what it had left: with Done the text of the play, and
-- nothing of the input is left; with a failed write, and for want of memory, some front of such a text; else nothing
abbrev pub GivesPlay : Scene → ℕ → ℕ → Option (List ℕ) → Option (List ℕ) → Option (List ℕ) → Option (List ℕ) → ℕ → ℕ
    → Status → Type 0
GivesPlay s frames passes left leaves before now faults rose Done = IfSome left (λ input. (leaves ≡ Some [])
    × IsPlay s frames passes input faults rose before now)
GivesPlay s frames passes left leaves before now faults rose WriteFault = IfSome left (λ input.
    IsPlayBegun s frames passes input faults rose before now)
GivesPlay s frames passes left leaves before now faults rose Memory = IfSome left (λ input.
    IsPlayBegun s frames passes input faults rose before now)
GivesPlay s frames passes left leaves before now faults rose ReadFault = Keeps before now
GivesPlay s frames passes left leaves before now faults rose InputFault = Keeps before now
GivesPlay s frames passes left leaves before now faults rose InputLong = Keeps before now
GivesPlay s frames passes left leaves before now faults rose status = ⊥

-- the status of a first fault of the layout, but where the source failed or memory was wanting; nothing was given
abbrev pub GivesNothing : Status → Option (List ℕ) → Option (List ℕ) → Status → Type 0
GivesNothing early before now ReadFault = Keeps before now
GivesNothing early before now Memory = Keeps before now
GivesNothing early before now status = (status ≡ early) × Keeps before now

abbrev pub PlaysOver : Files → ℕ → ℕ → Option (List ℕ) → Option (List ℕ) → Option (List ℕ) → Option (List ℕ) → ℕ → ℕ
    → Result Layout Status → Status → Type 0
PlaysOver files frames passes left leaves before now faults rose (Ok layout) status =
    GivesPlay (scene_of files layout) frames passes left leaves before now faults rose status
PlaysOver files frames passes left leaves before now faults rose (Err early) status = GivesNothing early before now status

abbrev pub Plays : ℕ → ℕ → Option Files → Option (List ℕ) → Option (List ℕ) → Option (List ℕ) → Option (List ℕ) → ℕ → ℕ
    → Status → Type 0
Plays frames passes told left leaves before now faults rose status = IfSome told (λ files.
    PlaysOver files frames passes left leaves before now faults rose (layout_wanted files) status)

abbrev pub replay_ends : List Status
replay_ends = Done ∷ WriteFault ∷ InputFault ∷ InputLong ∷ early_ends

abbrev pub replay_promise : ℕ → ℕ → Promise
replay_promise frames passes = record {
  reply = λ told. None;
  ends = replay_ends;
  reads = true;
  puts = false;
  takes = true;
  leaves = LeavesAll;
  first = NeedsNoFile;
  plays = Plays frames passes;
}
