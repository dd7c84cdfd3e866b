use Rattle.std.proofs.Common.{◌∙◌, ap, sym}
use Rattle.http.specs.StatusCode.{reason_phrase}
use Rattle.http_text.proofs.Statuses.{has_reason}
use Rattle.http_text.proofs.replies.reason.Goals as goal

pub unreachable-requires-in_default-canonical_reason : goal.unreachable-requires-in_default-canonical_reason
unreachable-requires-in_default-canonical_reason c =
    has_reason c.args.status c.requires (ap reason_phrase (sym c.in-Ok.ensures.1) ∙ sym c.in_default-canonical_reason.ensures.value)
