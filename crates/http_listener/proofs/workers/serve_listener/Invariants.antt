use Rattle.http_listener.specs.Asking.{WereAsked}
use Rattle.http_listener.proofs.workers.serve_listener.Given as goal

abbrev pub invariant-loop-stream : goal.invariant-loop-stream
invariant-loop-stream g l = WereAsked g.V.Viewers.may l.fn.viewers l.viewers
