use Rattle.http_text.proofs.Staying.{the_empty_line_is_refused}
use Rattle.http_text.proofs.laws.the_empty_line_is_refused.Goals as goal

pub returns : goal.returns
returns c = the_empty_line_is_refused
