-- The statuses of calls, and the table of what is left where there is no memory to read the words.
use Rattle.std.proofs.Common.{ℕ, ◌≤◌, List, ◌∷◌, refl, arith}
use Rattle.std.specs.Prelude.{Option, Some, None}
use Rattle.implicit_tiling.specs.Files.{Files}
use Rattle.program_status.specs.Sets.{IsOneOf}
use Rattle.program_status.proofs.Members.{in_larger, numbered}
use Rattle.program_status.specs.declared.status.Status.{Status}
use Rattle.program_status.specs.declared.status.Status.TheVariants.{Done, Faulted, Usage, BadLayout, WriteFault, Memory}
use Rattle.commands.specs.Commands.{Wish, tiles, check, make, survey, replay, batch, serve, promised}
use Rattle.commands.specs.Replies.{early_ends}
use Rattle.commands.specs.Tiles.{tiles_ends}
use Rattle.commands.specs.Check.{check_ends}
use Rattle.commands.proofs.Making.{nothing_made, nothing_put}
use Rattle.commands.proofs.Playing.{nothing_played}

-- a fault of the bytes of `tileset.json`
pub early_number : (number : ℕ) → (3 ≤ number) × (number ≤ 12) → IsOneOf early_ends (BadLayout number)
early_number number within = numbered number (let low = within.0 in omega (arith, low)) within.1

-- a call that gets no layout
pub tiles_early : (status : Status) → IsOneOf early_ends status → IsOneOf tiles_ends status
tiles_early status h =
    in_larger Done (Faulted ∷ Usage ∷ WriteFault ∷ early_ends) status
    (in_larger Faulted (Usage ∷ WriteFault ∷ early_ends) status (in_larger Usage (WriteFault ∷ early_ends) status (in_larger WriteFault early_ends status h)))

pub check_early : (status : Status) → IsOneOf early_ends status → IsOneOf check_ends status
check_early status h =
    in_larger Done (Faulted ∷ WriteFault ∷ early_ends) status (in_larger Faulted (WriteFault ∷ early_ends) status (in_larger WriteFault early_ends status h))

-- ---- no memory to read the words

pub memory_ends : (found : Option Wish) → IsOneOf (promised found).ends Memory
memory_ends None = tt
memory_ends (Some (tiles line)) = tt
memory_ends (Some check) = tt
memory_ends (Some (make r)) = tt
memory_ends (Some (survey r)) = tt
memory_ends (Some (replay f p)) = tt
memory_ends (Some (batch w f)) = tt
memory_ends (Some (serve p v f)) = tt

pub memory_leaves : (found : Option Wish) (kept : Option Files) → (promised found).leaves kept kept Memory
memory_leaves None kept = refl
memory_leaves (Some (tiles line)) kept = refl
memory_leaves (Some check) kept = refl
memory_leaves (Some (make r)) kept = nothing_made r kept
memory_leaves (Some (survey r)) kept = refl
memory_leaves (Some (replay f p)) kept = refl
memory_leaves (Some (batch w f)) kept = refl
memory_leaves (Some (serve p v f)) kept = refl

-- where nothing was given, no file has to stand
pub nothing_first : (found : Option Wish) (kept : Option Files) (before : Option (List ℕ)) → (promised found).first kept kept before before
nothing_first None kept before = tt
nothing_first (Some (tiles line)) kept before = tt
nothing_first (Some check) kept before = tt
nothing_first (Some (make r)) kept before = nothing_put r kept before
nothing_first (Some (survey r)) kept before = tt
nothing_first (Some (replay f p)) kept before = tt
nothing_first (Some (batch w f)) kept before = tt
nothing_first (Some (serve p v f)) kept before = tt

pub memory_plays : (found : Option Wish) (told : Option Files) (left before : Option (List ℕ)) (faults : ℕ)
    → (promised found).plays told left left before before faults faults Memory
memory_plays None told left before faults = tt
memory_plays (Some (tiles line)) told left before faults = tt
memory_plays (Some check) told left before faults = tt
memory_plays (Some (make r)) told left before faults = tt
memory_plays (Some (survey r)) told left before faults = tt
memory_plays (Some (replay f p)) told left before faults = nothing_played f p told left left before faults faults (omega arith)
memory_plays (Some (batch w f)) told left before faults = tt
memory_plays (Some (serve p v f)) told left before faults = tt
