-- What is written back over given files, and how the program ends: what all commands share (this project's own).
use Rattle.std.specs.Prelude.{ℕ, ◌≡◌, List, ◌∷◌, Option, option_map, Result, Ok, Err}
use Rattle.std.specs.Io.KnownBytes.{Appends, Keeps}
use Rattle.implicit_tiling.specs.Files.{Files}
use Rattle.implicit_tiling.specs.Scene.{Layout, Scene}
use Rattle.implicit_tileset.specs.Scene.{scene_of, layout_in}
use Rattle.scene_ports.specs.Output.{GivesFront}
use Rattle.program_status.specs.Sets.{IsOneOf, layout_faults}
use Rattle.program_status.specs.declared.status.Status.{Status}
use Rattle.program_status.specs.declared.status.Status.TheVariants.{BadLayout, ReadFault, WriteFault, InputFault}
use Rattle.program_status.specs.declared.status.Status.TheVariants.{Memory, InputLong}

-- a text, and the status of a program that gave it whole
pub record Reply : Type 0 where
  pub status : Status
  pub text : List ℕ

-- ---- over files that are told

-- the layout of `tileset.json`, or the status of its first fault
abbrev pub layout_or_status : Result Layout ℕ → Result Layout Status
layout_or_status (Ok layout) = Ok layout
layout_or_status (Err number) = Err (BadLayout number)

abbrev pub layout_wanted : Files → Result Layout Status
layout_wanted files = layout_or_status (layout_in files)

abbrev pub reply_over : (Scene → Reply) → Files → Result Layout Status → Result Reply Status
reply_over of files (Ok layout) = Ok (of (scene_of files layout))
reply_over of files (Err status) = Err status

-- the reply over the layout of some files, or the status that comes before anything is given; where the files are told
abbrev pub reply_in : (Scene → Reply) → Option Files → Option (Result Reply Status)
reply_in of told = option_map (λ files. reply_over of files (layout_wanted files)) told

-- ---- what was given

-- the reply was given whole, and nothing else, and the program ended with its status; or nothing was given
abbrev pub IsGiven : Result Reply Status → Option (List ℕ) → Option (List ℕ) → Status → Type 0
IsGiven (Ok wanted) before now status = (status ≡ wanted.status) × Appends before now wanted.text
IsGiven (Err early) before now status = (status ≡ early) × Keeps before now

-- some front of the reply was given
abbrev pub IsBegun : Result Reply Status → Option (List ℕ) → Option (List ℕ) → Type 0
IsBegun (Ok wanted) before now = GivesFront before now wanted.text
IsBegun (Err early) before now = Keeps before now

-- some front of the reply was given, and there is one
abbrev pub IsBroken : Result Reply Status → Option (List ℕ) → Option (List ℕ) → Type 0
IsBroken (Ok wanted) before now = GivesFront before now wanted.text
IsBroken (Err early) before now = ⊥

-- What was given with a status, of what is wanted. A failed read comes before anything is given; a failed write
-- leaves a front of a reply, and want of memory a front of what is wanted; every other status is the one that is
-- wanted, with the whole text.
abbrev pub Replies : Result Reply Status → Option (List ℕ) → Option (List ℕ) → Status → Type 0
Replies wanted before now ReadFault = Keeps before now
Replies wanted before now WriteFault = IsBroken wanted before now
Replies wanted before now Memory = IsBegun wanted before now
Replies wanted before now status = IsGiven wanted before now status

-- the statuses that come before anything is given
abbrev pub IsBeforeWriting : Status → Type 0
IsBeforeWriting = IsOneOf (ReadFault ∷ InputFault ∷ InputLong ∷ layout_faults)

-- ---- fetching the layout

-- the statuses of a call that gets no layout
abbrev pub early_ends : List Status
early_ends = ReadFault ∷ Memory ∷ layout_faults

-- the layout that is wanted, or the status that is wanted; but a source may fail, and memory may be wanting
abbrev pub Agrees : Result Layout Status → Result Layout Status → Type 0
Agrees wanted (Ok layout) = wanted ≡ Ok layout
Agrees wanted (Err ReadFault) = Unit {0}
Agrees wanted (Err Memory) = Unit {0}
Agrees wanted (Err status) = wanted ≡ Err status
