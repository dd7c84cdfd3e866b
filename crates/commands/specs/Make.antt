-- `make`: the files of a generated tileset (this project's own).
use Rattle.std.specs.Prelude.{ℕ, ◌≡◌, ◌⊎◌, true, false, List, [], ◌∷◌, length, Option, Some, Ok}
use Rattle.std.specs.Io.KnownBytes.{Keeps}
use Rattle.implicit_tiling.specs.Files.{Files}
use Rattle.implicit_tileset.specs.Scene.{scene_of, layout_in}
use Rattle.request_text.specs.Made.{made_text}
use Rattle.build_laws.specs.Holds.{HoldsTiles}
use Rattle.tile_builder.specs.Puts.{ArePut, IsCut, IsCutAt, IfTold}
use Rattle.tileset_make.specs.declared.recipe.Recipe.{Recipe}
use Rattle.tileset_make.specs.Recipes.{recipe_layout, recipe_words, recipe_files}
use Rattle.program_status.specs.declared.status.Status.{Status}
use Rattle.program_status.specs.declared.status.Status.TheVariants.{Done, WriteFault, Memory}
use Rattle.commands.specs.Promise.{Promise, PlaysNothing}
use Rattle.commands.specs.Replies.{Reply}

-- the reply to a recipe of which the files were put
abbrev pub make_reply : Recipe → Reply
make_reply r = record { status = Done; text = made_text (length (recipe_files r)) (length (recipe_words r)) }

-- what stands among the files that were kept once a recipe was made
pub record IsMade (r : Recipe) (before now : Files) : Type 0 where
  pub put : ArePut (recipe_files r) before now
  pub layout : layout_in now ≡ Ok (recipe_layout r)
  pub holds : HoldsTiles (scene_of now (recipe_layout r)) (recipe_words r)

-- What a call with a status leaves of the files that were kept: the whole tileset; or the first of its files were put
-- and no later one, and nothing is known of the one at which the keeper failed. It ends with no other status.
abbrev pub Leaves : Recipe → Files → Files → Status → Type 0
Leaves r before now Done = IsMade r before now
Leaves r before now WriteFault = IsCut (recipe_files r) before now ⊎ IsCutAt (recipe_files r) before now
Leaves r before now Memory = IsCut (recipe_files r) before now
Leaves r before now status = ⊥

-- the same where the keeper tells its files
abbrev pub MakeLeaves : Recipe → Option Files → Option Files → Status → Type 0
MakeLeaves r before now status = IfTold before now (λ b n. Leaves r b n status)

-- nothing was given, or all files of the recipe stand among those that are kept: so the files come before the text
abbrev pub PutsFirst : Recipe → Option Files → Option Files → Option (List ℕ) → Option (List ℕ) → Type 0
PutsFirst r kept keeps before now = Keeps before now ⊎ IfTold kept keeps (IsMade r)

abbrev pub make_ends : List Status
make_ends = Done ∷ WriteFault ∷ Memory ∷ []

abbrev pub make_promise : Recipe → Promise
make_promise r = record {
  reply = λ told. Some (Ok (make_reply r));
  ends = make_ends;
  reads = false;
  puts = true;
  takes = false;
  leaves = MakeLeaves r;
  first = PutsFirst r;
  plays = PlaysNothing;
}
