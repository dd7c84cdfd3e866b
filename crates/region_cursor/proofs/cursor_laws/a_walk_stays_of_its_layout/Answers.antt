use Rattle.region_cursor.proofs.Callers.{walk_stays}
use Rattle.region_cursor.proofs.cursor_laws.a_walk_stays_of_its_layout.Goals as goal

pub returns : goal.returns
returns c = walk_stays
