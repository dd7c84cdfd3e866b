-- The subtree of a row is one.
use Rattle.std.proofs.Common.{◌≡◌, ◌≤◌, List, Bool, [], ◌∷◌, ◌++◌, length, ap, sym, subst, ◌∙◌, arith, lit≤, lit<, refl}
use Rattle.std.specs.List.{All}
use Rattle.std.proofs.lemmas.List.Elements.{All-cons, All-nil}
use Rattle.implicit_tiling.specs.declared.Scheme.TheVariants.{Quad}
use Rattle.implicit_tiling.specs.Tile.{Tile, IsTile}
use Rattle.writing_trials.proofs.subtrees.subtree.Goals as goal

pub invariant_of-result : goal.invariant_of-result
invariant_of-result c =
    let content = c.in_ok-bits.field-0 in
    let one : c.push.new.self.items ≡ content ∷ [] = c.in_ok-push.ensures.items ∙ ap (λ (xs : List (List Bool)). xs ++ content ∷ []) c.new-contents.ensures.items in
    let P : List Bool → Type 0 = λ bits. length bits ≡ 5 in
    record {
      some_levels = lit≤ tt;
      few_levels = lit≤ tt;
      few_levels_in_all = lit≤ tt;
      root_below_cut = omega (arith, ap (λ (t : Tile). t.level) c.root.ensures);
      root_is_tile = subst (IsTile Quad) (sym c.root.ensures) (record { x_fits = lit< tt; y_fits = lit< tt; z_fits = lit< tt; flat = refl });
      few_contents = subst (λ (xs : List (List Bool)). length xs ≤ 16) (sym one) (lit≤ tt);
      tile_bits = c.in_ok-bits-2.ensures;
      content_bits = subst (All P) (sym one) (All-cons P content [] c.in_ok-bits.ensures (All-nil P));
      child_bits = c.in_ok-bits-3.ensures;
    }
