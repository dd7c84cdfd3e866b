-- Files that are put into a keeper, one after another (this project's own).
use Rattle.std.specs.Prelude.{ℕ, ◌≡◌, ◌≢◌, List, ◌∷◌, ◌++◌, Option, Some, None}
use Rattle.implicit_tiling.specs.Files.{Files, file}
use Rattle.scene_ports.specs.declared.keeper.Put.{Put}
use Rattle.scene_ports.specs.declared.keeper.Put.TheVariants.{Failed as put_failed, Memory as put_memory}
use Rattle.tile_builder.specs.declared.builder.BuildStop.{BuildStop}
use Rattle.tile_builder.specs.declared.builder.BuildStop.TheVariants.{Failed, Memory}

-- what is found under a name is the file that was put there, else the one from before
abbrev pub ArePut : Files → Files → Files → Type 0
ArePut files before now = (name : List ℕ) → file name now ≡ file name (files ++ before)

-- the first of the files were put, and no later one
pub record IsCut (files before now : Files) : Type 0 where
  pub done : Files
  pub rest : Files
  pub parts : files ≡ done ++ rest
  pub put : ArePut done before now

-- the same but for one file, of which nothing is known: the one at which a keeper failed
pub record IsCutAt (files before now : Files) : Type 0 where
  pub done : Files
  pub failed : List ℕ × List ℕ
  pub rest : Files
  pub parts : files ≡ done ++ failed ∷ rest
  pub put : (name : List ℕ) → name ≢ failed.0 → file name now ≡ file name (done ++ before)

abbrev pub Stops : Files → Files → Files → BuildStop → Type 0
Stops files before now Failed = IsCutAt files before now
Stops files before now Memory = IsCut files before now

-- the same where the keeper tells its files: it goes on telling
abbrev pub IfTold : Option Files → Option Files → (Files → Files → Type 0) → Type 0
IfTold None now P = Unit {0}
IfTold (Some before) None P = ⊥
IfTold (Some before) (Some now) P = P before now

-- what the keeper answered at the file at which it stopped
abbrev pub put_of : BuildStop → Put
put_of Failed = put_failed
put_of Memory = put_memory
