use Rattle.std.proofs.Common.{◌≡◌, ◌≤◌, ◌++◌, take, string_bytes}
use Rattle.std.specs.List.{flat_map}
use Rattle.implicit_tiling.specs.Text.{word_line}
use Rattle.scene_ports.specs.Output.{GivesAllBut}
use Rattle.request_text.proofs.text.append_answer.Given as goal

-- what the piece held and the lines so far were given, but for the piece that is held back
abbrev pub invariant-loop-word : goal.invariant-loop-word
invariant-loop-word g l = record {
  lines : GivesAllBut (g.O.Outlet.given l.initial.out) (g.O.Outlet.given l.out) (string_bytes l.piece) (string_bytes l.initial.piece ++ flat_map (word_line l.layout) (take l.word-index l.words));
  later : g.O.Outlet.faults l.initial.out ≤ g.O.Outlet.faults l.out;
  aside : g.O.Outlet.inlet_aside l.out ≡ g.O.Outlet.inlet_aside l.initial.out;
}
