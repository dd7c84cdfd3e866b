-- A subtree has a bit for each node, for each content, and for each child.
use Rattle.std.proofs.Common.{◌≡◌, Bool, List, ◌∷◌, ◌++◌, [], ◌∙◌, ap, sym, subst, length, arith}
use Rattle.std.specs.List.{All}
use Rattle.std.proofs.lemmas.List.Elements.{All-nil, All-cons}
use Rattle.implicit_tiling.specs.Tile.{Tile, IsTile}
use Rattle.implicit_tiling.specs.Subtree.{node_count}
use Rattle.tiling_laws.proofs.TileAt.{tile_at_is_tile, tile_at_level}
use Rattle.reading_trials.proofs.plain_scans.mixed_subtree.Goals as goal

pub invariant_of-result : goal.invariant_of-result
invariant_of-result c =
    let bits = c.in_ok-mixed_bits.field-0 in
    let contents : c.push.new.self.items ≡ bits ∷ [] =
    c.in_ok-push.ensures.items ∙ ap (λ xs. xs ++ bits ∷ []) c.new-contents.ensures.items in
    let P : List Bool → Type 0 = λ bits. length bits ≡ node_count c.args.scheme c.args.levels in
    record {
      some_levels = omega (arith, c.requires.some);
      few_levels = omega (arith, c.requires.few);
      few_levels_in_all = omega (arith, c.requires.within);
      root_below_cut = omega (arith, ap (λ (t : Tile). t.level) c.tile_at-root.ensures, tile_at_level c.args.scheme c.args.level c.args.index, c.requires.below);
      root_is_tile = subst (IsTile c.args.scheme) (sym c.tile_at-root.ensures) (tile_at_is_tile c.args.scheme c.args.level c.args.index);
      few_contents = omega (arith, ap length contents);
      tile_bits = c.in_ok-tiles.ensures ∙ c.nodes_above-nodes.ensures;
      content_bits = subst (All P) (sym contents) (All-cons P bits [] (c.in_ok-mixed_bits.ensures ∙ c.nodes_above-nodes.ensures) (All-nil P));
      child_bits = c.in_ok-child.ensures ∙ c.nodes_at.ensures;
    }
