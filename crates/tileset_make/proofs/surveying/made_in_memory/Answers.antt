use Rattle.std.proofs.Common.{sym, subst}
use Rattle.implicit_tiling.specs.Scene.{Scene}
use Rattle.implicit_tileset.specs.Scene.{scene_of}
use Rattle.scene_ports.specs.Files.{files_of}
use Rattle.build_laws.specs.Holds.{HoldsTiles}
use Rattle.tileset_make.specs.Recipes.{recipe_layout, recipe_words}
use Rattle.tileset_make.proofs.Puts.{told_at}
use Rattle.tileset_make.proofs.Scenes.{same_scene}
use Rattle.tileset_make.proofs.surveying.made_in_memory.Goals as goal

pub returns-clause-holds : goal.returns-clause-holds
returns-clause-holds c =
    let layout = recipe_layout c.args.recipe.now in
    let words = recipe_words c.args.recipe.now in
    let P : Scene → Type 0 = λ s. HoldsTiles s words in
    subst P (sym (same_scene layout (files_of c.in-Some.files.files.items) (files_of c.into_files.result.items) c.in-Some.ensures.told))
    (told_at (λ before now. HoldsTiles (scene_of now layout) words) c.new-keeper.ensures.kept c.into_files.ensures.kept c.in-Ok.ensures.holds)
