use Rattle.walk_laws.proofs.WalkRoots.{child_words_are_root_words}
use Rattle.walk_laws.proofs.root_laws.child_words_are_root_words.Goals as goal

pub returns : goal.returns
returns c = child_words_are_root_words
