use Rattle.std.proofs.Common.{◌≡◌, ◌+◌, length}
use Rattle.std.specs.Prelude.{None}
use Rattle.std.specs.List.{All}
use Rattle.viewer_session.specs.Sessions.{IsPassOf}
use Rattle.viewer_session.specs.Starts.{IsNewPass}
use Rattle.batch_run.specs.Desks.{IsReady}
use Rattle.viewing_trials.proofs.held.desks_with.Given as goal

-- the passes that are left, and a ready desk for each other one
abbrev pub invariant-loop : goal.invariant-loop
invariant-loop l = record {
  many : length l.desks.items ≡ l.counter;
  left : length l.passes.items + l.counter ≡ l.count;
  new : All (IsNewPass l.fn.scene) l.passes.items;
  ready : All (IsReady (λ source. None) (record { told = l.fn.scene.tileset.told; layout = l.fn.scene.tileset.layout; is_pass = IsPassOf l.fn.scene })) l.desks.items;
}
