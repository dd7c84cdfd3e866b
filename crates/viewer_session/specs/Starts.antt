-- What the start of a scene answers, and the passes that it gives (this project's own).
use Rattle.std.specs.Prelude.{ℕ, ◌≡◌, ◌≤◌, [], ◌∷◌, Result, Ok, Err}
use Rattle.implicit_tiling.specs.Scene.{Layout}
use Rattle.viewer_session.specs.declared.start.Started.{Started}
use Rattle.viewer_session.specs.declared.start.StartFault.{StartFault}
use Rattle.viewer_session.specs.declared.start.StartFault.TheVariants.{Layout as bad_layout, ReadFault, Memory}
use Rattle.viewer_session.specs.Sessions.{SceneSeen, PassSeen, IsPassOf}

-- the scene has the layout of the files, or the answer is the first fault of `tileset.json`; a fault of the source and
-- want of memory come of their own
abbrev pub HasStarted : Result Layout ℕ → Result Started StartFault → Type 0
HasStarted read (Ok started) = read ≡ Ok started.scene.tileset.layout
HasStarted read (Err (bad_layout n)) = read ≡ Err n
HasStarted read (Err ReadFault) = Unit {0}
HasStarted read (Err Memory) = Unit {0}

-- and the same of the layout alone
abbrev pub HasLayout : Result Layout ℕ → Result Layout StartFault → Type 0
HasLayout read (Ok layout) = read ≡ Ok layout
HasLayout read (Err (bad_layout n)) = read ≡ Err n
HasLayout read (Err ReadFault) = Unit {0}
HasLayout read (Err Memory) = Unit {0}

-- a fault of `tileset.json` has a number of 1 to 12
abbrev pub HasFaultNumber : {A : Type 0} → Result A StartFault → Type 0
HasFaultNumber (Ok started) = Unit {0}
HasFaultNumber (Err (bad_layout n)) = (1 ≤ n) × (n ≤ 12)
HasFaultNumber (Err ReadFault) = Unit {0}
HasFaultNumber (Err Memory) = Unit {0}

-- a pass of the scene that has done nothing yet: its number has no grants
pub record IsNewPass (scene : SceneSeen) (pass : PassSeen) : Type 0 where
  pub of_scene : IsPassOf scene pass
  pub nothing_walked : pass.walked ≡ []
  pub no_grants : pass.frames.note.granted ≡ record { pass = pass.frames.number; entries = [] } ∷ []
  pub no_busies : pass.frames.note.busies ≡ 0
