use Rattle.std.proofs.Common.{◌-◌, ◌<◌, ◌≤◌}
use Rattle.http_front.specs.Table.{most_replies}
use Rattle.http_connection.specs.Steps.{IsOpen}
use Rattle.http_connection.proofs.serving.serve_connection.Given as goal

abbrev pub invariant-loop-replies : goal.invariant-loop-replies
invariant-loop-replies g l = record {
  talk : IsOpen g.V.Viewers.may l.fn.viewers l.viewers (g.L.Inlet.left l.fn.link) (g.L.Inlet.left l.link) (g.L.Outlet.given l.fn.link) (g.L.Outlet.given l.link) l.desk.buffer l.replies;
  few : l.replies < most_replies;
  later : g.L.Inlet.faults l.fn.link ≤ g.L.Inlet.faults l.link;
}

abbrev pub decreases-loop-replies : goal.decreases-loop-replies
decreases-loop-replies g l = most_replies - l.replies
