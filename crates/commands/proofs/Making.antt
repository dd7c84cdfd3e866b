-- What is left of the files that were kept, and fronts of the texts of what was made.
use Rattle.std.proofs.Common.{◌≡◌, ℕ, List, [], length, refl, sym, ap₂, subst, append-nil, inl, inr, ◌⊎◌}
use Rattle.std.specs.Prelude.{Option, Some, None, Ok}
use Rattle.std.proofs.KnownBytes.{Keeps-refl}
use Rattle.implicit_tiling.specs.Files.{Files}
use Rattle.implicit_tileset.specs.Scene.{scene_of, layout_in}
use Rattle.scene_ports.specs.Output.{GivesFront}
use Rattle.build_laws.specs.Holds.{HoldsTiles}
use Rattle.tile_builder.specs.Puts.{ArePut, IsCut, IfTold}
use Rattle.tile_builder.proofs.Putting.{told_weaker}
use Rattle.tileset_make.specs.declared.recipe.Recipe.{Recipe}
use Rattle.tileset_make.specs.Recipes.{recipe_layout, recipe_words, recipe_files, Found, survey_of}
use Rattle.request_text.specs.Made.{made_text, survey_text}
use Rattle.program_status.specs.declared.status.Status.TheVariants.{Done, WriteFault, Memory}
use Rattle.commands.specs.Replies.{IsBegun}
use Rattle.commands.specs.Make.{IsMade, Leaves, MakeLeaves, PutsFirst, make_reply}
use Rattle.commands.specs.Survey.{survey_reply}

-- all files were put
whole : (files before now : Files) → ArePut files before now → IsCut files before now
whole files before now put = record { done = files; rest = []; parts = sym (append-nil files); put = put }

pub left_whole : (before now : Option Files) (r : Recipe) → IfTold before now (ArePut (recipe_files r)) → IfTold before now (λ b n. Leaves r b n WriteFault)
left_whole before now r = told_weaker before now (ArePut (recipe_files r)) (λ b n. Leaves r b n WriteFault) (λ b n put. inl (whole (recipe_files r) b n put))

pub left_in_memory : (before now : Option Files) (r : Recipe) → IfTold before now (ArePut (recipe_files r)) → IfTold before now (λ b n. Leaves r b n Memory)
left_in_memory before now r = told_weaker before now (ArePut (recipe_files r)) (λ b n. Leaves r b n Memory) (λ b n put. whole (recipe_files r) b n put)

pub left_made : (before now : Option Files) (r : Recipe) → IfTold before now (ArePut (recipe_files r)) → IfTold before now (λ b n. layout_in n ≡ Ok (recipe_layout r))
    → IfTold before now (λ b n. HoldsTiles (scene_of n (recipe_layout r)) (recipe_words r)) → IfTold before now (λ b n. Leaves r b n Done)
left_made None now r put layout holds = tt
left_made (Some b) None r put layout holds = put
left_made (Some b) (Some n) r put layout holds = record { put = put; layout = layout; holds = holds }

pub first_made : (before now : Option Files) (r : Recipe) (X : Type 0) → IfTold before now (ArePut (recipe_files r)) → IfTold before now (λ b n. layout_in n ≡ Ok (recipe_layout r))
    → IfTold before now (λ b n. HoldsTiles (scene_of n (recipe_layout r)) (recipe_words r)) → X ⊎ IfTold before now (IsMade r)
first_made before now r X put layout holds = inr (left_made before now r put layout holds)

-- where nothing was given, the files come first
pub nothing_put : (r : Recipe) (kept : Option Files) (before : Option (List ℕ)) → PutsFirst r kept kept before before
nothing_put r kept before = inl (Keeps-refl before)

-- a call that wants memory before anything is put leaves all as it was
pub nothing_made : (r : Recipe) (kept : Option Files) → MakeLeaves r kept kept Memory
nothing_made r None = tt
nothing_made r (Some files) = record { done = []; rest = recipe_files r; parts = refl; put = λ name. refl }

-- a front of the text of what was made
pub made_front : (r : Recipe) (files count : ℕ) (before now : Option (List ℕ)) → files ≡ length (recipe_files r) → count ≡ length (recipe_words r)
    → GivesFront before now (made_text files count) → IsBegun (Ok (make_reply r)) before now
made_front r files count before now few many front = subst (GivesFront before now) (ap₂ made_text few many) front

-- and of what was surveyed
pub survey_front : (r : Recipe) (s : Found) (before now : Option (List ℕ)) → s ≡ survey_of r → GivesFront before now (survey_text s.files s.tiles s.listed s.contents s.more)
    → IsBegun (Ok (survey_reply r)) before now
survey_front r s before now is front = let P : Found → Type 0 = λ f. GivesFront before now (survey_text f.files f.tiles f.listed f.contents f.more) in subst P is front
