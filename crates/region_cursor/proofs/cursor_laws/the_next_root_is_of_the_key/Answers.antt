use Rattle.region_cursor.proofs.Callers.{next_root_of_key}
use Rattle.region_cursor.proofs.cursor_laws.the_next_root_is_of_the_key.Goals as goal

pub returns : goal.returns
returns c = next_root_of_key
