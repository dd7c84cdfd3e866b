use Rattle.std.proofs.Common.{arith}
use Rattle.http_front.proofs.Filled.{part_without}
use Rattle.http_front.proofs.buffer.HeadBuffer.consume.Goals as goal

pub returns : goal.returns
returns c =
    part_without c.self.inside.bytes.items c.args.self.now c.self.inside.start c.self.inside.end c.args.count c.self.invariant.0 (omega (arith, c.self.invariant)) c.self.view_is c.requires
