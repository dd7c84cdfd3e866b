use Rattle.std.proofs.Common.{◌≡◌, ◌≤◌, length}
use Rattle.request_text.specs.Input.{input_lines}
use Rattle.batch_run.specs.Batches.{AreLeftReady}
use Rattle.batch_run.proofs.Rounds.{HasCome}
use Rattle.batch_run.proofs.all_lines.batch.Given as goal

-- the lines in front of the rest are answered
abbrev pub invariant-loop-lines : goal.invariant-loop-lines
invariant-loop-lines g l = record {
  come : HasCome g.S.FileSource.faults g.P.Pass.walked g.P.Pass.whole (g.V.Viewing.seen l.fn.scene) (input_lines l.fn.input) (input_lines l.rest) l.fn.desks l.desks (g.O.Outlet.given l.fn.out) (g.O.Outlet.given l.out);
  left : AreLeftReady g.S.FileSource.told g.S.FileSource.faults (g.V.Viewing.seen l.fn.scene) l.fn.desks l.desks;
  later : g.O.Outlet.faults l.fn.out ≤ g.O.Outlet.faults l.out;
  aside : g.O.Outlet.inlet_aside l.out ≡ g.O.Outlet.inlet_aside l.fn.out;
}

abbrev pub decreases-loop-lines : goal.decreases-loop-lines
decreases-loop-lines g l = length l.rest
