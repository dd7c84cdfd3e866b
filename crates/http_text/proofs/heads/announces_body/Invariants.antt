use Rattle.std.proofs.Common.{◌≡◌, false, take}
use Rattle.std.specs.List.{list_any}
use Rattle.httparse.specs.Spans.{header_bytes}
use Rattle.http_text.specs.Heads.{announces_body}
use Rattle.http_text.proofs.heads.announces_body.Given as goal

abbrev pub invariant-loop-header : goal.invariant-loop-header
invariant-loop-header l = list_any (λ h. announces_body (header_bytes l.bytes h)) (take l.header-index l.headers) ≡ false
