use Rattle.walk_laws.proofs.Segments.{segments_make_a_level}
use Rattle.walk_laws.proofs.split_laws.segments_make_a_level.Goals as goal

pub returns : goal.returns
returns c = segments_make_a_level
