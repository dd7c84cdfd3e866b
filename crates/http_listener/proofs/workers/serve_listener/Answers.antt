use Rattle.std.specs.Prelude.{None}
use Rattle.http_listener.proofs.Asked.{joined, by_connection, not_asked}
use Rattle.http_listener.proofs.workers.serve_listener.Goals as goal

pub loop-stream-preserved : goal.loop-stream-preserved
loop-stream-preserved g c =
    joined g.V.Viewers.may c.args.viewers.now c.loop-stream.viewers c.serve_connection.new.viewers c.loop-stream.invariant
    (by_connection g.V.Viewers.may c.loop-stream.viewers c.serve_connection.new.viewers None None None None c.serve_connection.result.replies c.serve_connection.result.end c.serve_connection.ensures.closed
    c.serve_connection.ensures.cut_short)
