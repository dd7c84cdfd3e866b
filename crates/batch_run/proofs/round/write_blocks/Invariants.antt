use Rattle.std.proofs.Common.{◌≡◌, ◌≤◌, map, string_bytes}
use Rattle.batch_run.specs.Batches.{SameButReplies}
use Rattle.batch_run.proofs.Writing.{IsWriting}
use Rattle.batch_run.proofs.round.write_blocks.Given as goal

-- the blocks so far were given, but for the piece that is held back; the other replies still lie at the desks
abbrev pub invariant-loop-place : goal.invariant-loop-place
invariant-loop-place g l = record {
  writing : IsWriting (g.V.Viewing.seen l.fn.scene) (map (λ line. line.now) l.fn.lines) l.fn.desks l.desks l.place (g.O.Outlet.given l.fn.out) (g.O.Outlet.given l.out) (string_bytes l.piece);
  left : SameButReplies l.fn.desks l.desks;
  later : g.O.Outlet.faults l.fn.out ≤ g.O.Outlet.faults l.out;
  aside : g.O.Outlet.inlet_aside l.out ≡ g.O.Outlet.inlet_aside l.fn.out;
}
