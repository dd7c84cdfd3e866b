use Rattle.request_text.proofs.Joining.{a_joined_line_is_its_words}
use Rattle.request_text.proofs.laws.a_joined_line_is_its_words.Goals as goal

pub returns : goal.returns
returns c = a_joined_line_is_its_words
