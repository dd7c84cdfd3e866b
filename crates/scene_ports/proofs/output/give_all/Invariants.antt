use Rattle.std.proofs.Common.{◌≡◌, length}
use Rattle.scene_ports.specs.Output.{GivesAllBut}
use Rattle.scene_ports.proofs.output.give_all.Given as goal

abbrev pub invariant-loop-rest : goal.invariant-loop-rest
invariant-loop-rest g l = record {
  under_way : GivesAllBut (g.O.Outlet.given l.initial.out) (g.O.Outlet.given l.out) l.rest l.bytes;
  sure : g.O.Outlet.faults l.out ≡ g.O.Outlet.faults l.initial.out;
  aside : g.O.Outlet.inlet_aside l.out ≡ g.O.Outlet.inlet_aside l.initial.out;
}

abbrev pub decreases-loop-rest : goal.decreases-loop-rest
decreases-loop-rest g l = length l.rest
