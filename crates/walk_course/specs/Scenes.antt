-- What the walks of a scene have in common, and what each is of (this project's own).
use Rattle.std.specs.Prelude.{[], None}
use Rattle.implicit_tiling.specs.declared.Scheme.TheVariants.{Quad}
use Rattle.implicit_tiling.specs.Region.{Plan}
use Rattle.walk_course.specs.declared.planned.WalkScene.{WalkScene}
use Rattle.walk_course.specs.declared.tag.WalkTag.{WalkTag}

-- the walk of a plan is of its region
abbrev pub tag_of : WalkScene → Plan → WalkTag
tag_of scene plan = record { told = scene.told; layout = scene.layout; region = plan.region }

-- any scene
abbrev pub no_scene : WalkScene
no_scene = record {
  told = None;
  layout = record { scheme = Quad; subtree_levels = 0; levels = 0; subtree = []; contents = [] };
}
