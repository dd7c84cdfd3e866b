-- A subtree of ones has a bit for each node and for each child.
use Rattle.std.proofs.Common.{◌∙◌, ap, sym, subst, length, arith, true}
use Rattle.std.proofs.lemmas.List.{length-replicate}
use Rattle.implicit_tiling.specs.Tile.{Tile, IsTile}
use Rattle.tiling_laws.proofs.TileAt.{tile_at_is_tile}
use Rattle.reading_trials.proofs.scans.full.Goals as goal

pub invariant_of-result : goal.invariant_of-result
invariant_of-result c = record {
  some_levels = omega arith;
  few_levels = omega arith;
  few_levels_in_all = omega arith;
  root_below_cut = omega (arith, ap (λ (t : Tile). t.level) c.root.ensures);
  root_is_tile = subst (IsTile c.args.scheme) (sym c.root.ensures) (tile_at_is_tile c.args.scheme 0 0);
  few_contents = omega (arith, ap length c.new.ensures.items);
  tile_bits = ap length c.constant-tiles.ensures ∙ length-replicate c.nodes_above.result true ∙ c.nodes_above.ensures;
  content_bits = λ k d below. absurd (omega (arith, ap length c.new.ensures.items));
  child_bits = ap length c.constant-child.ensures ∙ length-replicate c.nodes_at.result true ∙ c.nodes_at.ensures;
}
