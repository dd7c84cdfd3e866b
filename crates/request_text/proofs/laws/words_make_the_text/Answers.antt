use Rattle.request_text.proofs.Words.{words_make_the_text}
use Rattle.request_text.proofs.laws.words_make_the_text.Goals as goal

pub returns : goal.returns
returns c = words_make_the_text
