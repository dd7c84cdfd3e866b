use Rattle.region_cursor.proofs.Callers.{key_is_of_a_root_tile}
use Rattle.region_cursor.proofs.cursor_laws.the_tile_of_the_key_is_a_root.Goals as goal

pub returns : goal.returns
returns c = key_is_of_a_root_tile
