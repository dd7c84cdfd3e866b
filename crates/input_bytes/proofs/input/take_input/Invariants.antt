use Rattle.std.proofs.Common.{◌≡◌, ◌≤◌, ◌-◌, length}
use Rattle.std.specs.Io.KnownBytes.{Consumes}
use Rattle.scene_ports.specs.Counts.{more_by}
use Rattle.input_bytes.specs.Input.{most_input_bytes}
use Rattle.input_bytes.proofs.input.take_input.Given as goal

-- what was taken so far, and that no take has failed
abbrev pub invariant-loop-count : goal.invariant-loop-count
invariant-loop-count g l = record {
  taken : Consumes (g.I.Inlet.left l.initial.input) (g.I.Inlet.left l.input) l.bytes.items;
  counted : g.I.Inlet.taken l.input ≡ more_by (length l.bytes.items) (g.I.Inlet.taken l.initial.input);
  few : length l.bytes.items ≤ most_input_bytes;
  sure : g.I.Inlet.faults l.input ≡ g.I.Inlet.faults l.initial.input;
  aside : g.I.Inlet.given_aside l.input ≡ g.I.Inlet.given_aside l.initial.input;
}

abbrev pub decreases-loop-count : goal.decreases-loop-count
decreases-loop-count g l = most_input_bytes - length l.bytes.items
