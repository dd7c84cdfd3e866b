use Rattle.std.proofs.Common.{sym, true}
use Rattle.httparse.specs.Spans.{header_bytes}
use Rattle.http_text.specs.Heads.{announces_body}
use Rattle.http_text.proofs.Headers.{one_passes, none_passes, tested}
use Rattle.http_text.proofs.heads.announces_body.Goals as goal

pub returns-then-is_body : goal.returns-then-is_body
returns-then-is_body c =
    sym (one_passes announces_body (header_bytes c.args.bytes.now) c.args.headers.now c.loop-header.header-index _ c.loop-header-test.true
    (tested announces_body _ _ _ _ _ true c.of-name.ensures c.of-value.ensures c.is_body.ensures c.if-is_body.true))

pub returns : goal.returns
returns c = sym (none_passes announces_body (header_bytes c.args.bytes.now) c.args.headers.now c.loop-header.header-index c.loop-header-test.false c.loop-header.invariant)
