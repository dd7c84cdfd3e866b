-- What contracts see of a scene and of the passes of its viewers (this project's own).
use Rattle.std.specs.Prelude.{ℕ, ◌≡◌, ◌≢◌, List, [], length, None, false}
use Rattle.atomic_table.specs.Seated.{TableId}
use Rattle.turn_lock.specs.Seats.{Seat}
use Rattle.implicit_tiling.specs.Region.{Region, Plan}
use Rattle.implicit_tiling.specs.Scene.{Layout, Scene}
use Rattle.implicit_tiling.specs.Answer.{answer}
use Rattle.implicit_tiling.specs.Steps.{ended}
use Rattle.walk_laws.specs.Plans.{FitsLayout}
use Rattle.tile_coords.specs.Ends.{end_seen}
use Rattle.tile_coords.specs.declared.walk_end.WalkEnd.{WalkEnd}
use Rattle.tile_coords.specs.declared.walk_end.WalkEnd.TheVariants.{Partial}
use Rattle.subtree_outcome.specs.declared.outcome.Outcome.{Outcome}
use Rattle.shared_pool.specs.declared.shared.PoolTag.{PoolTag}
use Rattle.shared_pool.specs.Fits.{IsIdle}
use Rattle.shared_pool.specs.Seen.{HostSeen, PassSeen as PoolPassSeen, first_note}
use Rattle.scene_frames.specs.declared.rule.SceneTag.{SceneTag}
use Rattle.scene_frames.specs.Held.{IsOfScene, no_scene}
use Rattle.plan_registry.specs.Registries.{CursorSeen, Walks}
use Rattle.walk_course.specs.declared.planned.WalkScene.{WalkScene}
use Rattle.walk_course.specs.declared.tag.WalkTag.{WalkTag}
use Rattle.walk_course.specs.Scenes.{tag_of}
use Rattle.viewer_session.specs.declared.pass.Walked.{Walked}

-- the host of a scene's frames, and a pass to them
abbrev pub FramesHost : Type 0
FramesHost = HostSeen SceneTag ℕ Outcome

abbrev pub FramesPass : Type 0
FramesPass = PoolPassSeen SceneTag ℕ Outcome

-- The files that its source told and its layout, the host of its frames as it was at the start, and the table of its
-- registry of walks
pub record SceneSeen : Type 0 where
  pub tileset : WalkScene
  pub frames : FramesHost
  pub registry : TableId

-- any host, for what states none
abbrev pub no_host : FramesHost
no_host = record {
  table = record { words = 0; slots = 0; views_name = 0; atom = 0; block = 0; offset = 0; slot_names = [] };
  tag = record { frames = 0; passes = 0; own = no_scene };
  next = 0;
  note = first_note 0;
  last = None;
  gave = None;
}

-- The pass to the frames, the seat of the registry, and what was walked: the plans that were attached to or answered
-- whole, in their order
pub record PassSeen : Type 0 where
  pub frames : FramesPass
  pub walks : Seat WalkScene (Unit {0}) (Walks WalkTag)
  pub walked : List Walked

-- what the walk of a plan in it is of
abbrev pub tag_in : SceneSeen → Plan → WalkTag
tag_in scene plan = tag_of scene.tileset plan

-- its walks and its frames are of the same files and layout
abbrev pub IsScene : WalkScene → Layout → PoolTag SceneTag → Type 0
IsScene tileset layout frames = (tileset.layout ≡ layout) × IsOfScene tileset.layout tileset.told frames

-- the host is that of the scene's frames
pub record IsHostOf (scene : SceneSeen) (host : FramesHost) : Type 0 where
  pub of_table : host.table ≡ scene.frames.table
  pub of_tag : host.tag ≡ scene.frames.tag

-- the pass is one of the scene, and between two calls: it pins and loads nothing, and doesn't have the registry
pub record IsPassOf (scene : SceneSeen) (pass : PassSeen) : Type 0 where
  pub of_frames : pass.frames.table ≡ scene.frames.table
  pub of_tag : pass.frames.tag ≡ scene.frames.tag
  pub idle : IsIdle pass.frames.note
  pub of_registry : pass.walks.table ≡ scene.registry
  pub of_scene : pass.walks.tag ≡ scene.tileset
  pub nothing_out : pass.walks.out ≡ None

-- the cursor is on the walk of its plan in the scene, and between two calls: it doesn't have the work
pub record IsCursorOf (scene : SceneSeen) (cursor : CursorSeen WalkTag) : Type 0 where
  pub of_scene : cursor.seat.tag ≡ tag_in scene cursor.plan
  pub fits : FitsLayout scene.tileset.layout cursor.plan
  pub at_rest : cursor.seat.has_work ≡ false

-- an end other than Partial is that of the answer, and all its tiles are there
abbrev pub IsWholeAt : Scene → Region → ℕ → WalkEnd → Type 0
IsWholeAt s region count end = end ≢ Partial
    → (count ≡ length (answer s region).tiles) × (end_seen s.layout.scheme end ≡ ended (answer s region).end)

-- a cursor is still on the walk of its plan
abbrev pub IsSameWalk : CursorSeen WalkTag → CursorSeen WalkTag → Type 0
IsSameWalk old new = (new.plan ≡ old.plan) × (new.seat.table ≡ old.seat.table) × (new.seat.tag ≡ old.seat.tag)
