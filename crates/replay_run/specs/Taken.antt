-- For proofs and inner functions: what one turn of a played script leaves (this project's own).
use Rattle.std.specs.Prelude.{ℕ, ◌≡◌, ◌≤◌, ◌⊎◌, Bool, [], ◌∷◌, Option, Some, None, IfSome}
use Rattle.implicit_tiling.specs.Files.{Files}
use Rattle.implicit_tiling.specs.Scene.{Layout, Scene}
use Rattle.scene_ports.specs.Counts.{Rose, more_by}
use Rattle.subtree_outcome.specs.Outcomes.{IsOutcomeOf}
use Rattle.subtree_outcome.specs.declared.outcome.Outcome.{Outcome}
use Rattle.replay_script.specs.declared.event.Event.{Event}
use Rattle.replay_script.specs.declared.event.Event.TheVariants.{Load}
use Rattle.replay_script.specs.declared.reply.Reply.{Reply}
use Rattle.replay_machine.specs.Machine.{Machine}
use Rattle.replay_machine.specs.Turns.{turn}
use Rattle.replay_core.specs.Core.{IsShown, IsReplied, wanted}
use Rattle.replay_core.specs.declared.state.Core.{Core}
use Rattle.replay_run.specs.Plays.{event_of, failures}

-- the key of the root whose file an event reads
abbrev pub key_read : Core → Event (Unit {0}) → Option ℕ
key_read core (Load p none) = wanted core p
key_read core event = None

-- what was read of the file of a key's root; or nothing, where there is no key or the source failed
abbrev pub IsRead : Layout → Option Files → Option ℕ → ℕ → ℕ → Option Outcome → Type 0
IsRead layout told key faults now (Some found) = IfSome key (λ k. IsOutcomeOf layout told k found)
IsRead layout told key faults now None = (key ≡ None) ⊎ Rose faults now

-- the reply to an event is that of the machine, from each state that the core showed; a load has failed only where the
-- source did
pub record IsTaken (s : Scene) (event : Event (Unit {0})) (faults now : ℕ) (old : Core) (reply : Reply)
    (new : Core) : Type 0 where
  pub failed : Bool
  pub counted : more_by (failures (record { event = event; failed = failed } ∷ [])) faults ≤ now
  pub replied : (m : Machine) → IsShown s m old
      → IsReplied s (turn s m (event_of (record { event = event; failed = failed }))) reply new
