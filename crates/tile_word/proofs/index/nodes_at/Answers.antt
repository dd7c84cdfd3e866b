use Rattle.tile_word.proofs.Levels.{shift_is_nodes}
use Rattle.tile_word.proofs.index.nodes_at.Goals as goal

pub returns : goal.returns
returns c = shift_is_nodes c.args.scheme c.axes.result c.args.level c.axes.ensures c.requires
