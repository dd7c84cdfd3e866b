use Rattle.availability.proofs.Places.{place_is_short, tile_place}
use Rattle.availability.proofs.subtree.Subtree.tile_at.Goals as goal

pub overflow_add-nodes_above : goal.overflow_add-nodes_above
overflow_add-nodes_above c =
    record { fits = place_is_short _ _ c.args.local c.args.index c.nodes_above.result c.self.view_is c.self.invariant c.requires.local c.requires.index c.nodes_above.ensures }

pub get-requires : goal.get-requires
get-requires c = tile_place _ _ c.args.local c.args.index c.nodes_above.result c.self.view_is c.self.invariant c.requires.local c.requires.index c.nodes_above.ensures
