use Rattle.std.proofs.Common.{◌%◌, ◌∙◌, ap, arith, subst}
use Rattle.std.proofs.lemmas.Bool.{eq-eqb}
use Rattle.implicit_tiling.specs.declared.Scheme.{Scheme}
use Rattle.implicit_tiling.specs.Tile.{Tile, IsTile}
use Rattle.implicit_tiling.specs.Scene.{Layout}
use Rattle.implicit_tiling.specs.Availability.{local_level}
use Rattle.tile_word.proofs.Tiles.{word_tile_level}
use Rattle.subtree_outcome.proofs.root.root_tile.Goals as goal

pub returns-clause-level : goal.returns-clause-level
returns-clause-level c = ap (λ (t : Tile). t.level) c.word_tile.ensures.tile ∙ word_tile_level c.layout.inside.scheme c.args.root

pub returns-clause-root : goal.returns-clause-root
returns-clause-root c =
    let scheme = ap (λ (l : Layout). l.scheme) c.layout.view_is in
    let level = ap (λ (t : Tile). t.level) c.word_tile.ensures.tile ∙ word_tile_level c.layout.inside.scheme c.args.root in
    record {
      is_tile = let P : Scheme → Type 0 = λ e. IsTile e c.word_tile.result in subst P scheme c.word_tile.ensures.is_tile;
      within = omega (arith, level, c.requires.below);
      at_start = eq-eqb (local_level c.args.layout.now c.word_tile.result) 0 (ap (λ l. l % c.args.layout.now.subtree_levels) level ∙ c.requires.at_start);
    }

pub returns-clause-some_levels : goal.returns-clause-some_levels
returns-clause-some_levels c =
    let levels = ap (λ (l : Layout). l.subtree_levels) c.layout.view_is in
    omega (arith, levels, c.layout.invariant.some_subtree_levels)
