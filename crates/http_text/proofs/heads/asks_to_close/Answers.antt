use Rattle.std.proofs.Common.{sym, true}
use Rattle.httparse.specs.Spans.{header_bytes}
use Rattle.http_text.specs.Heads.{asks_to_close}
use Rattle.http_text.proofs.Headers.{one_passes, none_passes, tested}
use Rattle.http_text.proofs.heads.asks_to_close.Goals as goal

pub returns-then-is_close : goal.returns-then-is_close
returns-then-is_close c =
    sym (one_passes asks_to_close (header_bytes c.args.bytes.now) c.args.headers.now c.loop-header.header-index _ c.loop-header-test.true
    (tested asks_to_close _ _ _ _ _ true c.of-name.ensures c.of-value.ensures c.is_close.ensures c.if-is_close.true))

pub returns : goal.returns
returns c = sym (none_passes asks_to_close (header_bytes c.args.bytes.now) c.args.headers.now c.loop-header.header-index c.loop-header-test.false c.loop-header.invariant)
