use Rattle.http_text.proofs.Staying.{heads_are_one}
use Rattle.http_text.proofs.laws.heads_are_one.Goals as goal

pub returns : goal.returns
returns c = heads_are_one
