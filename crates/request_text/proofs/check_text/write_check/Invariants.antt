use Rattle.std.proofs.Common.{◌≡◌, ◌≤◌, take, string_bytes}
use Rattle.std.specs.List.{flat_map}
use Rattle.scene_ports.specs.Output.{GivesAllBut}
use Rattle.request_text.proofs.Found.{found_line}
use Rattle.request_text.proofs.check_text.write_check.Given as goal

-- the lines so far were given, but for the piece that is held back
abbrev pub invariant-loop-fault : goal.invariant-loop-fault
invariant-loop-fault g l = record {
  lines : GivesAllBut (g.O.Outlet.given l.initial.out) (g.O.Outlet.given l.out) (string_bytes l.piece) (flat_map (found_line l.scheme) (take l.fault-index l.found));
  later : g.O.Outlet.faults l.initial.out ≤ g.O.Outlet.faults l.out;
  aside : g.O.Outlet.inlet_aside l.out ≡ g.O.Outlet.inlet_aside l.initial.out;
}
