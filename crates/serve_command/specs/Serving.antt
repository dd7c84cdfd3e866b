-- How `serve` ends, which isn't meant to end (this project's own).
use Rattle.std.specs.Prelude.{ℕ, ◌≡◌, List, [], ◌∷◌, Result, Ok, Err, Option}
use Rattle.std.specs.List.{All}
use Rattle.implicit_tiling.specs.Files.{Files}
use Rattle.implicit_tiling.specs.Scene.{Layout}
use Rattle.program_status.specs.Sets.{layout_faults}
use Rattle.program_status.specs.declared.status.Status.{Status}
use Rattle.program_status.specs.declared.status.Status.TheVariants.{BadLayout, ReadFault, Memory, ListenFault}

-- each of these sources tells these files, or each tells nothing
abbrev pub AllTell : {S : Type 0} → (S → Option Files) → Option Files → List S → Type 0
AllTell told files sources = All (λ s. told s ≡ files) sources

-- the statuses with which it may end, whatever is told: the scene couldn't be started, the port couldn't be had, or no
-- worker could accept a connection any more
abbrev pub serve_ends : List Status
serve_ends = ListenFault ∷ ReadFault ∷ Memory ∷ layout_faults

-- The same by the layout of the files, or the number of the first fault of `tileset.json`. That fault comes before the
-- port is asked for, but for a failed read of the file and want of memory
abbrev pub serve_ends_over : Result Layout ℕ → List Status
serve_ends_over (Ok layout) = ListenFault ∷ ReadFault ∷ Memory ∷ []
serve_ends_over (Err number) = BadLayout number ∷ ReadFault ∷ Memory ∷ []
