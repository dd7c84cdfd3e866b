-- What contracts see of viewers of a scene, and what is always so of them (this project's own).
use Rattle.std.specs.Prelude.{ℕ, ◌≡◌, List, Option, IfSome}
use Rattle.implicit_tiling.specs.Files.{Files}
use Rattle.plan_registry.specs.Registries.{CursorSeen}
use Rattle.tile_coords.specs.declared.walk_end.WalkEnd.{WalkEnd}
use Rattle.subtree_outcome.specs.Found.{AreTilesOf, EndsWithin}
use Rattle.walk_course.specs.declared.tag.WalkTag.{WalkTag}
use Rattle.viewer_session.specs.Sessions.{SceneSeen, PassSeen, IsPassOf, IsCursorOf}

-- their scene, their pass, their source, the cursor of the last answer that had a text, and that text
pub record ViewersSeen (S : Type 0) : Type 0 where
  pub scene : SceneSeen
  pub pass : PassSeen
  pub files : S
  pub kept : Option (CursorSeen WalkTag)
  pub text : List ℕ

-- The pass and the cursor are the scene's, the source tells what the scene's told, and the text is by words of tiles of
-- the layout and an end within it
pub record AreViewersOf (scene : SceneSeen) (pass : PassSeen) (told : Option Files) (kept : Option (CursorSeen WalkTag))
    (words : List ℕ) (end : WalkEnd) : Type 0 where
  pub pass_is : IsPassOf scene pass
  pub told_is : told ≡ scene.tileset.told
  pub kept_is : IfSome kept (IsCursorOf scene)
  pub words_are : AreTilesOf scene.tileset.layout words
  pub end_is : EndsWithin scene.tileset.layout end
