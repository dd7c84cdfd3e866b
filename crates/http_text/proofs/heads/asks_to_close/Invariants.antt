use Rattle.std.proofs.Common.{◌≡◌, false, take}
use Rattle.std.specs.List.{list_any}
use Rattle.httparse.specs.Spans.{header_bytes}
use Rattle.http_text.specs.Heads.{asks_to_close}
use Rattle.http_text.proofs.heads.asks_to_close.Given as goal

abbrev pub invariant-loop-header : goal.invariant-loop-header
invariant-loop-header l = list_any (λ h. asks_to_close (header_bytes l.bytes h)) (take l.header-index l.headers) ≡ false
