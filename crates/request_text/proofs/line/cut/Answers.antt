use Rattle.std.proofs.Common.{sym, ◌∙◌}
use Rattle.request_text.proofs.Reading.{cut_some, cut_none}
use Rattle.request_text.proofs.line.cut.Goals as goal

pub returns-in_err-at : goal.returns-in_err-at
returns-in_err-at c = rw c.from_residual.ensures (cut_none _ c.args.text.now (sym c.first_separator.ensures.place ∙ c.in_err-at.was))

pub returns : goal.returns
returns c = cut_some _ c.args.text.now c.in_ok-at.at (sym c.in_ok-at.ensures.place)
