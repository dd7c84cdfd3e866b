use Rattle.request_text.proofs.Found.{found_make_the_text}
use Rattle.request_text.proofs.laws.found_make_the_text.Goals as goal

pub returns : goal.returns
returns c = found_make_the_text
