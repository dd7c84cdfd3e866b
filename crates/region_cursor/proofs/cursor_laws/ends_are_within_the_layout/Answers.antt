use Rattle.region_cursor.proofs.Callers.{ends_within}
use Rattle.region_cursor.proofs.cursor_laws.ends_are_within_the_layout.Goals as goal

pub returns : goal.returns
returns c = ends_within
