-- Scripts that are played over the layout of the files: what is given where nothing was played.
use Rattle.std.proofs.Common.{◌≡◌, ◌≤◌, ℕ, List, Option, Some, None, sym}
use Rattle.std.specs.Prelude.{IfSome, Result, Ok, Err}
use Rattle.std.proofs.KnownBytes.{Keeps-refl}
use Rattle.implicit_tiling.specs.Files.{Files}
use Rattle.implicit_tiling.specs.Scene.{Layout}
use Rattle.implicit_tileset.specs.Scene.{scene_of}
use Rattle.program_status.specs.Sets.{IsOneOf}
use Rattle.program_status.specs.declared.status.Status.{Status}
use Rattle.program_status.specs.declared.status.Status.TheVariants.{Done, Faulted, Usage, BadLayout, ReadFault, WriteFault, InputFault, Memory, InputLong, ListenFault}
use Rattle.replay_run.proofs.Played.{not_begun, where_told}
use Rattle.commands.specs.Replies.{layout_wanted, early_ends, Agrees}
use Rattle.commands.specs.Replay.{PlaysOver, Plays}

-- ---- nothing was played

no_play_over : (files : Files) (frames passes : ℕ) (left leaves before : Option (List ℕ)) (faults rose : ℕ) → faults ≤ rose → (wanted : Result Layout Status)
    → PlaysOver files frames passes left leaves before before faults rose wanted Memory
no_play_over files frames passes left leaves before faults rose grown (Ok layout) =
    where_told left _ (λ input. not_begun (scene_of files layout) frames passes input faults rose before grown)
no_play_over files frames passes left leaves before faults rose grown (Err early) = Keeps-refl before

pub nothing_played : (frames passes : ℕ) (told : Option Files) (left leaves before : Option (List ℕ)) (faults rose : ℕ) → faults ≤ rose
    → Plays frames passes told left leaves before before faults rose Memory
nothing_played frames passes told left leaves before faults rose grown =
    where_told told _ (λ files. no_play_over files frames passes left leaves before faults rose grown (layout_wanted files))

-- ---- no layout

no_layout : (files : Files) (frames passes : ℕ) (left before : Option (List ℕ)) (faults rose : ℕ) → faults ≤ rose → (wanted : Result Layout Status) (status : Status)
    → IsOneOf early_ends status → Agrees wanted (Err status) → PlaysOver files frames passes left left before before faults rose wanted status
no_layout files frames passes left before faults rose grown wanted Memory early agrees = no_play_over files frames passes left left before faults rose grown wanted
no_layout files frames passes left before faults rose grown (Ok layout) ReadFault early agrees = Keeps-refl before
no_layout files frames passes left before faults rose grown (Err other) ReadFault early agrees = Keeps-refl before
no_layout files frames passes left before faults rose grown (Ok layout) (BadLayout n) early agrees = cc
no_layout files frames passes left before faults rose grown (Err other) (BadLayout n) early agrees = let same : other ≡ BadLayout n = cc in (sym same, Keeps-refl before)
no_layout files frames passes left before faults rose grown wanted Done early agrees = absurd early
no_layout files frames passes left before faults rose grown wanted Faulted early agrees = absurd early
no_layout files frames passes left before faults rose grown wanted Usage early agrees = absurd early
no_layout files frames passes left before faults rose grown wanted WriteFault early agrees = absurd early
no_layout files frames passes left before faults rose grown wanted InputFault early agrees = absurd early
no_layout files frames passes left before faults rose grown wanted InputLong early agrees = absurd early
no_layout files frames passes left before faults rose grown wanted ListenFault early agrees = absurd early

early_told : (told : Option Files) (status : Status) (P : Files → Type 0) → IfSome told (λ all. Agrees (layout_wanted all) (Err status))
    → ((all : Files) → Agrees (layout_wanted all) (Err status) → P all) → IfSome told P
early_told None status P agrees each = tt
early_told (Some all) status P agrees each = each all agrees

pub early_plays : (frames passes : ℕ) (told : Option Files) (left before : Option (List ℕ)) (faults rose : ℕ) (status : Status) → faults ≤ rose → IsOneOf early_ends status
    → IfSome told (λ all. Agrees (layout_wanted all) (Err status)) → Plays frames passes told left left before before faults rose status
early_plays frames passes told left before faults rose status grown early agrees =
    early_told told status _ agrees (λ files known. no_layout files frames passes left before faults rose grown (layout_wanted files) status early known)
