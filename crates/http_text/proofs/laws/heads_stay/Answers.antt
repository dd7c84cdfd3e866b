use Rattle.http_text.proofs.Staying.{heads_stay}
use Rattle.http_text.proofs.laws.heads_stay.Goals as goal

pub returns : goal.returns
returns c = heads_stay
