use Rattle.std.proofs.Common.{sym, ◌∙◌}
use Rattle.http_text.proofs.Cutting.{cut_at, uncut}
use Rattle.http_text.proofs.cuts.cut.Goals as goal

pub returns-in_err-at : goal.returns-in_err-at
returns-in_err-at c = rw c.from_residual.ensures (uncut c.args.mark c.args.text.now (sym c.first_place.ensures.place ∙ c.in_err-at.was))

pub returns : goal.returns
returns c = cut_at c.args.mark c.args.text.now c.in_ok-at.at (sym c.in_ok-at.ensures.place)
