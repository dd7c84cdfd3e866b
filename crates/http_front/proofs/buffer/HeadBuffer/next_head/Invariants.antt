use Rattle.std.proofs.Common.{◌≡◌, ◌-◌, length}
use Rattle.http_text.specs.Limits.{most_head_bytes}
use Rattle.http_front.specs.Reading.{TakesOn}
use Rattle.http_front.proofs.buffer.HeadBuffer.next_head.Given as goal

abbrev pub invariant-loop-parts : goal.invariant-loop-parts
invariant-loop-parts g l = record {
  taken : TakesOn (g.I.Inlet.left l.initial.inlet) (g.I.Inlet.left l.inlet) l.initial.self l.self;
  sure : g.I.Inlet.faults l.inlet ≡ g.I.Inlet.faults l.initial.inlet;
  aside : g.I.Inlet.given_aside l.inlet ≡ g.I.Inlet.given_aside l.initial.inlet;
}

abbrev pub decreases-loop-parts : goal.decreases-loop-parts
decreases-loop-parts g l = most_head_bytes - length l.self
