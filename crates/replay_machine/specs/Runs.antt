-- The replies to a list of events, and the state after them (this project's own).
use Rattle.std.specs.Prelude.{List, [], ◌∷◌, Option}
use Rattle.implicit_tiling.specs.Scene.{Scene}
use Rattle.replay_script.specs.declared.event.Event.{Event}
use Rattle.replay_machine.specs.Machine.{Machine}
use Rattle.replay_machine.specs.Said.{Said}
use Rattle.replay_machine.specs.Turns.{turn}

abbrev pub replies : {X : Type 0} → Scene → Machine → List (Event (Option X)) → List Said
replies s m [] = []
replies s m (event ∷ events) = (turn s m event).said ∷ replies s (turn s m event).after events

abbrev pub state_after : {X : Type 0} → Scene → Machine → List (Event (Option X)) → Machine
state_after s m [] = m
state_after s m (event ∷ events) = state_after s (turn s m event).after events
