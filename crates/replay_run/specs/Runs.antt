-- Events that are run one after another, and what is replied to them (this project's own).
use Rattle.std.specs.Prelude.{ℕ, ◌≡◌, List, [], ◌∷◌, ◌++◌, slice_get, Option, Some, IfSome, Result, Ok, Err}
use Rattle.std.specs.declared.alloc.AllocError.{AllocError}
use Rattle.implicit_tiling.specs.Scene.{Layout, Scene}
use Rattle.subtree_outcome.specs.declared.outcome.Outcome.{Outcome}
use Rattle.subtree_outcome.specs.Outcomes.{HasNoOrphans}
use Rattle.replay_script.specs.declared.event.Event.{Event}
use Rattle.replay_script.specs.declared.event.Event.TheVariants.{Load}
use Rattle.replay_script.specs.declared.reply.Reply.{Reply}
use Rattle.replay_machine.specs.Machine.{Machine}
use Rattle.replay_machine.specs.Said.{Said, Says}
use Rattle.replay_machine.specs.Turns.{turn}
use Rattle.replay_machine.specs.Runs.{replies, state_after}
use Rattle.replay_core.specs.Core.{IsShown, IsOfScene, IsReadAt, pass_wanted}
use Rattle.replay_core.specs.declared.state.Core.{Core}

-- ---- what the loads of some events have read

-- the key of the root that a pass is loading
abbrev pub wanted_in : Machine → ℕ → Option ℕ
wanted_in m p = pass_wanted m.census (slice_get m.passes p)

-- what a load has read is P's of that key
abbrev pub IsBrought : (ℕ → Outcome → Type 0) → Machine → Event (Option Outcome) → Type 0
IsBrought P m (Load p (Some found)) = IfSome (wanted_in m p) (λ key. P key found)
IsBrought P m event = Unit {0}

-- the same of each event, in the state that the events before it leave
abbrev pub AreBrought : (ℕ → Outcome → Type 0) → Scene → Machine → List (Event (Option Outcome)) → Type 0
AreBrought P s m [] = Unit {0}
AreBrought P s m (event ∷ events) = IsBrought P m event × AreBrought P s (turn s m event).after events

-- an outcome of the scene, as it is read of any source
abbrev pub IsFound : Scene → ℕ → Outcome → Type 0
IsFound s key found = IsReadAt s.layout key found × IsOfScene s key found

-- a scene of which a core shows a state, and whose outcomes are what the loads of some events have read
pub record MayRun (layout : Layout) (core : Core) (events : List (Event (Option Outcome))) : Type 0 where
  pub scene : Scene
  pub machine : Machine
  pub same : scene.layout ≡ layout
  pub whole : HasNoOrphans scene
  pub shown : IsShown scene machine core
  pub brought : AreBrought (IsFound scene) scene machine events

-- ---- what is replied

-- replies that say this, one after another
abbrev pub AreSaid : Scene → List Said → List Reply → Type 0
AreSaid s [] [] = Unit {0}
AreSaid s [] (reply ∷ more) = ⊥
AreSaid s (said ∷ rest) [] = ⊥
AreSaid s (said ∷ rest) (reply ∷ more) = Says s said reply × AreSaid s rest more

-- the replies of the machine to all events stand behind those that were there, and the core shows the state after them
pub record HasRun (s : Scene) (m : Machine) (events : List (Event (Option Outcome))) (core : Core)
    (before now : List Reply) : Type 0 where
  pub more : List Reply
  pub behind : now ≡ before ++ more
  pub said : AreSaid s (replies s m events) more
  pub shown : IsShown s (state_after s m events) core

-- all events were run, or those before the one at which memory was wanting
abbrev pub RunEnds : Scene → Machine → List (Event (Option Outcome)) → Core → List Reply → List Reply
    → Result (Unit {0}) AllocError → Type 0
RunEnds s m events core before now (Ok done) = HasRun s m events core before now
RunEnds s m events core before now (Err none) = (front : List (Event (Option Outcome))) × (event : Event (Option Outcome))
    × (rest : List (Event (Option Outcome))) × (events ≡ front ++ event ∷ rest) × HasRun s m front core before now
