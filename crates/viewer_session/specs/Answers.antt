-- What an answer tells of the walk that it was read off (this project's own).
use Rattle.std.specs.Prelude.{◌≡◌, Option}
use Rattle.implicit_tiling.specs.Region.{Plan}
use Rattle.tile_coords.specs.declared.walk_end.WalkEnd.{WalkEnd}
use Rattle.plan_registry.specs.Registries.{CursorSeen, Walks, HasAttached}
use Rattle.walk_course.specs.declared.planned.WalkScene.{WalkScene}
use Rattle.walk_course.specs.declared.tag.WalkTag.{WalkTag}
use Rattle.walk_course.specs.Scenes.{tag_of}
use Rattle.viewer_session.specs.Sessions.{IsSameWalk}

-- The registry was taken and given back as by an attach to the plan. The cursor is still on the walk that was attached
-- to, and has seen the end
pub record HasAnsweredOn (scene : WalkScene) (plan : Plan) (last gave : Option (Walks WalkTag)) (end : WalkEnd)
    (cursor : CursorSeen WalkTag) : Type 0 where
  pub first : CursorSeen WalkTag
  pub attached : HasAttached tag_of scene plan last gave first
  pub same : IsSameWalk first cursor
  pub seen : cursor.seat.end ≡ end
