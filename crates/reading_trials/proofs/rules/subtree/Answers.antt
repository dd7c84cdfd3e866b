-- The subtree of a row is one.
use Rattle.std.proofs.Common.{◌≡◌, ◌≤◌, List, Bool, true, [], ◌∷◌, ◌++◌, length, ap, sym, subst, ◌∙◌, arith, lit≤}
use Rattle.std.specs.List.{All}
use Rattle.std.proofs.lemmas.List.{length-replicate}
use Rattle.std.proofs.lemmas.List.Elements.{All-cons, All-nil}
use Rattle.implicit_tiling.specs.declared.Scheme.TheVariants.{Quad}
use Rattle.implicit_tiling.specs.Tile.{Tile, IsTile}
use Rattle.tiling_laws.proofs.TileAt.{tile_at_is_tile}
use Rattle.reading_trials.proofs.rules.subtree.Goals as goal

pub invariant_of-result : goal.invariant_of-result
invariant_of-result c =
    let one : c.push.new.self.items ≡ c.args.content ∷ [] = c.in_ok-push.ensures.items ∙ ap (λ (xs : List (List Bool)). xs ++ c.args.content ∷ []) c.new-contents.ensures.items in
    let P : List Bool → Type 0 = λ bits. length bits ≡ 21 in
    record {
      some_levels = lit≤ tt;
      few_levels = lit≤ tt;
      few_levels_in_all = omega (arith, c.levels_in_all.ensures.1);
      root_below_cut = omega (arith, ap (λ (t : Tile). t.level) c.root.ensures, c.levels_in_all.ensures.0);
      root_is_tile = subst (IsTile Quad) (sym c.root.ensures) (tile_at_is_tile Quad 0 0);
      few_contents = subst (λ (xs : List (List Bool)). length xs ≤ 16) (sym one) (lit≤ tt);
      tile_bits = c.requires.tiles;
      content_bits = subst (All P) (sym one) (All-cons P c.args.content [] c.requires.content (All-nil P));
      child_bits = ap length c.constant.ensures ∙ length-replicate 64 true;
    }
