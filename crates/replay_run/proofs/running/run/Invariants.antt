use Rattle.std.proofs.Common.{◌≡◌}
use Rattle.std.specs.List.{All}
use Rattle.std.specs.Vec.Iter.{into_iter_items}
use Rattle.implicit_tiling.specs.Scene.{Scene}
use Rattle.subtree_outcome.specs.Outcomes.{HasNoOrphans}
use Rattle.replay_machine.specs.Machine.{Machine}
use Rattle.replay_core.specs.Core.{IsCoreOf, IsShown, AsksFor, IsOfScene}
use Rattle.replay_run.specs.Runs.{MayRun, AreBrought}
use Rattle.replay_run.proofs.Ran.{HasCome}
use Rattle.replay_run.proofs.running.run.Given as goal

-- the events in front of the rest are run
abbrev pub invariant-loop-event : goal.invariant-loop-event
invariant-loop-event l = record {
  core : IsCoreOf l.layout l.core;
  plans : All (AsksFor l.layout) (into_iter_items l.event-iterator);
  may : MayRun l.layout l.core (into_iter_items l.event-iterator);
  come : (s : Scene) (m : Machine) → s.layout ≡ l.layout → HasNoOrphans s → IsShown s m l.fn.core → AreBrought (IsOfScene s) s m l.fn.events.items
      → HasCome s m l.fn.events.items (into_iter_items l.event-iterator) l.core l.fn.replies.items l.replies.items;
}
