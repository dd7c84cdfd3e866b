use Rattle.region_cursor.proofs.Callers.{words_of_the_layout}
use Rattle.region_cursor.proofs.cursor_laws.words_are_of_the_layout.Goals as goal

pub returns : goal.returns
returns c = words_of_the_layout
