use Rattle.std.proofs.Common.{Ok, ℕ, length, ◌≡◌, ◌≤◌, lit≤, ◌+◌, ◌∷◌, [], codes, ap, sym, ◌∙◌, arith}
use Rattle.std.specs.Prelude.{Err}
use Rattle.std.proofs.lemmas.Result.{err_from_is_err_and}
use Rattle.implicit_tileset.specs.Scene.{layout_in, scene_of}
use Rattle.scene_ports.specs.Keeper.{Puts}
use Rattle.scene_ports.specs.declared.keeper.Put.TheVariants.{Kept}
use Rattle.tileset_write.specs.LayoutText.{layout_text}
use Rattle.build_laws.specs.Made.{made_files}
use Rattle.build_laws.specs.Holds.{HoldsTiles}
use Rattle.tile_builder.specs.Puts.{ArePut, Stops, IfTold}
use Rattle.tileset_make.specs.Recipes.{tileset_files}
use Rattle.tileset_make.proofs.Names.{not_made}
use Rattle.tileset_make.proofs.Counts.{length-tileset_files, few_roots}
use Rattle.tile_builder.proofs.Putting.{told_weaker}
use Rattle.tileset_make.proofs.Puts.{told_twice, told_put, put_last, stopped_before, stopped_at_last, err_exit}
use Rattle.tile_builder.proofs.Holding.{same_whole}
use Rattle.tileset_make.proofs.Scenes.{still_hold, layout_read}
use Rattle.tileset_make.proofs.tileset.put_tileset.Goals as goal

pub returns-in_err-built-clause-stopped : goal.returns-in_err-built-clause-stopped
returns-in_err-built-clause-stopped g c =
    let layout = c.args.layout.now in
    let words = c.args.occupancy.now.words in
    let stop = c.in_err-built.field-0.0 in
    let before = g.K.FileKeeper.kept c.args.keeper.now in
    let now = g.K.FileKeeper.kept c.build.new.keeper in
    err_exit c.from_residual.result stop (λ stop. IfTold before now (λ first last. Stops (tileset_files layout words) first last stop))
    (err_from_is_err_and c.from_residual.result c.from_residual.ensures.1)
    (told_weaker before now (λ first last. Stops (made_files layout words) first last stop) (λ first last. Stops (tileset_files layout words) first last stop)
    (λ first last. stopped_before (made_files layout words) ((codes "tileset.json", layout_text layout) ∷ []) first last stop) c.in_err-built.ensures.stopped)

pub returns-in_err-put_layout-clause-stopped : goal.returns-in_err-put_layout-clause-stopped
returns-in_err-put_layout-clause-stopped g c =
    let layout = c.args.layout.now in
    let words = c.args.occupancy.now.words in
    let stop = c.in_err-put_layout.field-0.0 in
    let before = g.K.FileKeeper.kept c.args.keeper.now in
    let mid = g.K.FileKeeper.kept c.build.new.keeper in
    let now = g.K.FileKeeper.kept c.put_layout.new.keeper in
    err_exit c.from_residual-in_err-put_layout.result stop (λ stop. IfTold before now (λ first last. Stops (tileset_files layout words) first last stop))
    (err_from_is_err_and c.from_residual-in_err-put_layout.result c.from_residual-in_err-put_layout.ensures.1)
    (stopped_at_last (codes "tileset.json") (layout_text layout) (made_files layout words) before mid now stop c.in_ok-built.ensures.kept
    (λ e. c.in_err-put_layout.ensures.others (ap Err e)) (λ e. c.in_err-put_layout.ensures.same (ap Err e)))

pub overflow_add-result : goal.overflow_add-result
overflow_add-result g c =
    let layout = c.args.layout.now in
    let words = c.args.occupancy.now.words in
    let most : ℕ = 18446744073709551614 in
    let few : length words ≤ most = omega (arith, c.if-prove.false, ap (length {A = ℕ}) c.words.ensures.words) in
    omega (arith, c.in_ok-built.ensures.files, few_roots layout words most (lit≤ tt) few)

pub returns-clause-kept : goal.returns-clause-kept
returns-clause-kept g c =
    let layout = c.args.layout.now in
    let words = c.args.occupancy.now.words in
    let before = g.K.FileKeeper.kept c.args.keeper.now in
    let mid = g.K.FileKeeper.kept c.build.new.keeper in
    let now = g.K.FileKeeper.kept c.put_layout.new.keeper in
    let name = codes "tileset.json" in
    told_twice before mid now (ArePut (made_files layout words)) (λ first last. Puts name (layout_text layout) first last Kept) (ArePut (tileset_files layout words))
    (λ first between last put also. put_last name (layout_text layout) (made_files layout words) first between last (not_made layout name words c.requires.apart) put also)
    c.in_ok-built.ensures.kept (told_put name (layout_text layout) mid now Kept c.in_ok-put_layout.ensures.put)

pub returns-clause-layout : goal.returns-clause-layout
returns-clause-layout g c =
    let layout = c.args.layout.now in
    let words = c.args.occupancy.now.words in
    let before = g.K.FileKeeper.kept c.args.keeper.now in
    let mid = g.K.FileKeeper.kept c.build.new.keeper in
    let now = g.K.FileKeeper.kept c.put_layout.new.keeper in
    let name = codes "tileset.json" in
    told_twice before mid now (ArePut (made_files layout words)) (λ first last. Puts name (layout_text layout) first last Kept) (λ first last. layout_in last ≡ Ok layout)
    (λ first between last put also. layout_read layout between last c.requires.layout also)
    c.in_ok-built.ensures.kept (told_put name (layout_text layout) mid now Kept c.in_ok-put_layout.ensures.put)

pub returns-clause-holds : goal.returns-clause-holds
returns-clause-holds g c =
    let layout = c.args.layout.now in
    let words = c.args.occupancy.now.words in
    let before = g.K.FileKeeper.kept c.args.keeper.now in
    let mid = g.K.FileKeeper.kept c.build.new.keeper in
    let now = g.K.FileKeeper.kept c.put_layout.new.keeper in
    let name = codes "tileset.json" in
    told_twice before mid now (ArePut (made_files layout words)) (λ first last. Puts name (layout_text layout) first last Kept)
    (λ first last. HoldsTiles (scene_of last layout) words)
    (λ first between last put also. still_hold layout name words first between last
    (record {
      limits = c.requires.layout.limits;
      whole = same_whole c.args.occupancy.now.scheme layout.scheme c.args.occupancy.now.levels layout.levels words c.requires.scheme c.requires.levels c.words.ensures.whole;
      masks = c.requires.masks;
    }) c.requires.names c.requires.apart put also.1)
    c.in_ok-built.ensures.kept (told_put name (layout_text layout) mid now Kept c.in_ok-put_layout.ensures.put)

pub returns-clause-files : goal.returns-clause-files
returns-clause-files g c = ap (λ n. n + 1) c.in_ok-built.ensures.files ∙ sym (length-tileset_files c.args.layout.now c.args.occupancy.now.words)

pub returns-clause-tiles : goal.returns-clause-tiles
returns-clause-tiles g c = c.in_ok-built.ensures.tiles
