use Rattle.std.proofs.Common.{◌≡◌, ◌≢◌, codes, ◌<◌, ◌^◌, length, ap, sym, subst, ◌∙◌}
use Rattle.std.specs.List.{All}
use Rattle.std.proofs.lemmas.List.FromFn.{length-map-range_with_len}
use Rattle.std.proofs.lemmas.Result.{err_from_is_err_and}
use Rattle.implicit_tiling.specs.Code.{word_mask}
use Rattle.implicit_tiling.specs.Scene.{Layout}
use Rattle.tileset_write.specs.LayoutText.{IsLayout}
use Rattle.build_laws.specs.Made.{made_files}
use Rattle.scene_ports.specs.Files.{HasDistinctNames}
use Rattle.tile_builder.specs.Puts.{Stops, IfTold}
use Rattle.tile_builder.specs.declared.builder.BuildStop.TheVariants.{Memory}
use Rattle.implicit_tiling.specs.Tile.{Tile}
use Rattle.implicit_tileset.specs.Scene.{subtree_name}
use Rattle.tile_occupancy.specs.Occupied.{Occupancy, IsOccupancy}
use Rattle.tileset_make.specs.declared.recipe.Recipe.{Recipe}
use Rattle.tileset_make.specs.Recipes.{recipe_words, recipe_files, content_template}
use Rattle.tileset_make.proofs.Layouts.{recipe_has_layout}
use Rattle.tileset_make.proofs.Names.{never_tileset, made_files_distinct, recipe_files_distinct}
use Rattle.tileset_make.proofs.Puts.{told_same, stopped_at_once, err_exit, if_ok}
use Rattle.tileset_make.proofs.making.make.Goals as goal

-- an occupancy of the recipe's scheme and levels
as_recipe : (r : Recipe) (o : Occupancy) → o.scheme ≡ r.scheme → o.levels ≡ r.levels → IsOccupancy o.scheme o.levels o.words → IsOccupancy r.scheme r.levels o.words
as_recipe r o scheme levels whole =
    subst (λ s. IsOccupancy s r.levels o.words) scheme (subst (λ n. IsOccupancy o.scheme n o.words) levels whole)

of_list : (r : Recipe) (o : Occupancy) → o.scheme ≡ r.scheme → o.levels ≡ r.levels → o.words ≡ recipe_words r → IsOccupancy o.scheme o.levels o.words
    → IsOccupancy r.scheme r.levels (recipe_words r)
of_list r o scheme levels list whole = subst (λ ws. IsOccupancy r.scheme r.levels ws) list (as_recipe r o scheme levels whole)

pub returns-in_err-layout-clause-stopped : goal.returns-in_err-layout-clause-stopped
returns-in_err-layout-clause-stopped g c =
    let files = recipe_files c.args.recipe.now in
    let kept = g.K.FileKeeper.kept c.args.keeper.now in
    err_exit c.from_residual.result Memory (λ stop. IfTold kept kept (λ first last. Stops files first last stop))
    (err_from_is_err_and c.from_residual.result c.from_residual.ensures.1)
    (told_same kept (λ first last. Stops files first last Memory) (stopped_at_once files))

pub returns-in_err-occupancy-clause-stopped : goal.returns-in_err-occupancy-clause-stopped
returns-in_err-occupancy-clause-stopped g c =
    let files = recipe_files c.args.recipe.now in
    let kept = g.K.FileKeeper.kept c.args.keeper.now in
    err_exit c.from_residual-in_err-occupancy.result Memory (λ stop. IfTold kept kept (λ first last. Stops files first last stop))
    (err_from_is_err_and c.from_residual-in_err-occupancy.result c.from_residual-in_err-occupancy.ensures.1)
    (told_same kept (λ first last. Stops files first last Memory) (stopped_at_once files))

pub put_tileset-requires : goal.put_tileset-requires
put_tileset-requires g c =
    let r = c.args.recipe.now in
    let o = c.in_ok-occupancy.occupancy in
    let is = c.in_ok-layout.ensures in
    let found = c.in_ok-occupancy.ensures in
    let P : Occupancy → Type 0 = λ o. IsOccupancy o.scheme o.levels o.words in
    let whole = subst P c.occupancy.view_is c.occupancy.invariant in
    record {
      scheme = found.scheme ∙ sym (ap (λ (l : Layout). l.scheme) is);
      levels = found.levels ∙ sym (ap (λ (l : Layout). l.levels) is);
      masks = subst (λ n. All (λ w. word_mask w < 2 ^ n) o.words)
          (sym (ap (λ (l : Layout). length l.contents) is ∙ length-map-range_with_len (content_template r.scheme) 0 r.contents)) found.masks;
      names = subst (λ l. HasDistinctNames (made_files l o.words)) (sym is) (made_files_distinct r o.words (as_recipe r o found.scheme found.levels whole));
      apart = subst (λ l. (t : Tile) → subtree_name l t ≢ codes "tileset.json") (sym is) (never_tileset r.scheme);
      layout = subst IsLayout (sym is) (recipe_has_layout r);
    }

pub returns-clause-names : goal.returns-clause-names
returns-clause-names g c =
    let r = c.args.recipe.now in
    let found = c.in_ok-occupancy.ensures in
    if_ok c.put_tileset.result (HasDistinctNames (recipe_files r)) (recipe_files_distinct r (recipe_words r) (of_list r c.in_ok-occupancy.occupancy found.scheme found.levels found.list
    (let P : Occupancy → Type 0 = λ o. IsOccupancy o.scheme o.levels o.words in subst P c.occupancy.view_is c.occupancy.invariant)))

pub returns-clause-whole : goal.returns-clause-whole
returns-clause-whole g c =
    let r = c.args.recipe.now in
    let found = c.in_ok-occupancy.ensures in
    if_ok c.put_tileset.result (IsOccupancy r.scheme r.levels (recipe_words r)) (of_list r c.in_ok-occupancy.occupancy found.scheme found.levels found.list
    (let P : Occupancy → Type 0 = λ o. IsOccupancy o.scheme o.levels o.words in subst P c.occupancy.view_is c.occupancy.invariant))
