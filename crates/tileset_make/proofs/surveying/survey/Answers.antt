use Rattle.std.proofs.Common.{◌≡◌, ℕ, take, arith, length, count_ones, ap, subst, ◌∙◌}
use Rattle.std.specs.Prelude.{sum_by}
use Rattle.implicit_tiling.specs.Answer.{most_tiles}
use Rattle.implicit_tiling.specs.Code.{word_mask}
use Rattle.implicit_tiling.specs.Scene.{Layout}
use Rattle.implicit_tileset.specs.Scene.{scene_of}
use Rattle.walk_laws.specs.Regions.{whole}
use Rattle.scene_ports.specs.Files.{files_of}
use Rattle.tile_word.specs.Answers.{IsAnswer}
use Rattle.tileset_make.specs.Recipes.{recipe_layout, recipe_words}
use Rattle.tileset_make.proofs.Surveyed.{found, cut_if}
use Rattle.tileset_make.proofs.surveying.survey.Goals as goal

pub returns : goal.returns
returns c =
    let r = c.args.recipe.now in
    let ws = recipe_words r in
    let all = files_of c.in_ok-built.files.files.items in
    let words = c.in_ok-words.words.items in
    let end = c.in_ok-words.end in
    let P : Layout → Type 0 = λ l. IsAnswer (scene_of all l) (whole l.scheme l.levels) words end in
    let finds = found (scene_of all (recipe_layout r)) ws words end c.in_ok-built.ensures.whole c.in_ok-built.ensures.holds (subst P c.in_ok-layout.ensures c.in_ok-words.ensures.answer) in
    let more = cut_if end c.is_cut.result c.is_cut.ensures ∙ finds.more_is in
    let same = c.deref.ensures.value ∙ finds.words_are in
    let listed : c.len.result ≡ length (take most_tiles ws) = omega (arith, c.len.ensures, c.deref.ensures.len, ap (length {A = ℕ}) same) in
    let contents = c.count_contents.ensures ∙ ap (sum_by (λ w. count_ones (word_mask w))) same in
    λ i. record { files = c.in_ok-built.ensures.files i; tiles = c.in_ok-built.ensures.tiles i; listed = listed i; contents = contents i; more = more i }
