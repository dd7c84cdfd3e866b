use Rattle.std.proofs.Common.{◌≡◌, ◌≤◌, length, string_bytes}
use Rattle.std.specs.Prelude.{IfSome}
use Rattle.implicit_tileset.specs.Scene.{scene_of}
use Rattle.tileset_json.specs.Limits.{IsWithinLimits}
use Rattle.replay_core.specs.Core.{IsCoreOf}
use Rattle.replay_run.proofs.Played.{IsPlaying}
use Rattle.replay_run.proofs.playing.play.Given as goal

-- the lines in front of the rest are played
abbrev pub invariant-loop-event : goal.invariant-loop-event
invariant-loop-event g l = record {
  core : IsCoreOf l.layout l.core;
  within : IsWithinLimits l.layout;
  playing : IfSome (g.S.FileSource.told l.fn.files) (λ all. IsPlaying (scene_of all l.layout) l.frames l.passes l.input l.rest l.core
      (g.S.FileSource.faults l.fn.files) (g.S.FileSource.faults l.files) (g.O.Outlet.given l.fn.out) (g.O.Outlet.given l.out) (string_bytes l.piece));
  later_files : g.S.FileSource.faults l.fn.files ≤ g.S.FileSource.faults l.files;
  later : g.O.Outlet.faults l.fn.out ≤ g.O.Outlet.faults l.out;
  aside : g.O.Outlet.inlet_aside l.out ≡ g.O.Outlet.inlet_aside l.fn.out;
  same : g.S.FileSource.told l.files ≡ g.S.FileSource.told l.fn.files;
}

abbrev pub decreases-loop-event : goal.decreases-loop-event
decreases-loop-event g l = length l.rest
