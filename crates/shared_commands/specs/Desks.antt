-- What the commands of several workers do with the places of their workers (this project's own).
use Rattle.std.specs.Prelude.{ℕ, ◌≡◌, ◌<◌, ◌≤◌, List, [], ◌∷◌, length, slice_index_or, Option, None, Some}
use Rattle.implicit_tiling.specs.Files.{Files}
use Rattle.viewer_session.specs.Sessions.{PassSeen}
use Rattle.viewer_session.specs.declared.pass.Walked.{Walked}
use Rattle.batch_run.specs.Desks.{DeskSeen}

-- the place of a worker that looks at a scene
abbrev pub Place : Type 0 → Type 0
Place S = DeskSeen S PassSeen Walked

-- the files that the sources tell, by the first of them
abbrev pub files_of : {S : Type 0} → (S → Option Files) → List (Place S) → Option Files
files_of told [] = None
files_of told (desk ∷ desks) = told desk.source

-- a desk without a pass, whose source tells these files
pub record IsFree {S : Type 0} (told : S → Option Files) (files : Option Files) (desk : Place S) : Type 0 where
  pub no_pass : desk.pass ≡ None
  pub same_files : told desk.source ≡ files

-- A desk is left without a pass, and its source tells what it told; its count of faults doesn't fall
pub record IsLeftFree {S : Type 0} (told : S → Option Files) (faults : S → ℕ) (old new : Place S) : Type 0 where
  pub no_pass : new.pass ≡ None
  pub same_files : told new.source ≡ told old.source
  pub later : faults old.source ≤ faults new.source

abbrev pub AreLeftFree : {S : Type 0} → (S → Option Files) → (S → ℕ) → List (Place S) → List (Place S) → Type 0
AreLeftFree {S} told faults old new = (length new ≡ length old) × ((w : ℕ) (d : Place S) → w < length old
    → IsLeftFree told faults (slice_index_or old w d) (slice_index_or new w d))

-- Only the source of the first desk was used, and so: all else is as it was
abbrev pub OnlyFirst : {S : Type 0} → (S → S → Type 0) → List (Place S) → List (Place S) → Type 0
OnlyFirst IsUsed [] new = ⊥
OnlyFirst IsUsed (desk ∷ desks) [] = ⊥
OnlyFirst IsUsed (desk ∷ desks) (next ∷ nexts) = IsUsed desk.source next.source
    × (next ≡ record desk { source = next.source }) × (nexts ≡ desks)

-- ---- for inner functions

-- the pass was taken out of each desk
abbrev pub HaveLostPasses : {S : Type 0} → List (Place S) → List (Place S) → Type 0
HaveLostPasses {S} old new = (length new ≡ length old) × ((w : ℕ) (d : Place S) (pass : PassSeen) → w < length old
    → (slice_index_or old w d).pass ≡ Some pass
    → slice_index_or new w d ≡ record (slice_index_or old w d) { pass = None; shown = pass.walked })
