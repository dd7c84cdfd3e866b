use Rattle.http_text.proofs.Staying.{no_heads_stay}
use Rattle.http_text.proofs.laws.no_heads_stay.Goals as goal

pub returns : goal.returns
returns c = no_heads_stay
