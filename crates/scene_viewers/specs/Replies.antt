-- What viewers of a scene may answer to a request line, and what it does to them (this project's own).
use Rattle.std.specs.Prelude.{ℕ, ◌≡◌, ◌≢◌, ◌⊎◌, List, [], ◌∷◌, ◌++◌, length, map, take, Option, IfSome, IsSomeAnd}
use Rattle.std.specs.Prelude.{Result, Ok, Err}
use Rattle.implicit_tiling.specs.Files.{Files}
use Rattle.implicit_tiling.specs.Region.{Plan}
use Rattle.implicit_tiling.specs.Scene.{Layout}
use Rattle.implicit_tiling.specs.Code.{tile_word}
use Rattle.implicit_tiling.specs.Answer.{answer}
use Rattle.implicit_tiling.specs.Text.{words_text}
use Rattle.implicit_tileset.specs.Scene.{scene_of}
use Rattle.scene_ports.specs.Counts.{Rose}
use Rattle.tile_coords.specs.Ends.{end_seen}
use Rattle.tile_coords.specs.declared.walk_end.WalkEnd.{WalkEnd}
use Rattle.subtree_outcome.specs.Found.{AreTilesOf, EndsWithin}
use Rattle.published_prefix.specs.Heads.{NoFurther}
use Rattle.plan_registry.specs.Registries.{CursorSeen, HasAttached}
use Rattle.walk_course.specs.declared.planned.WalkScene.{WalkScene}
use Rattle.walk_course.specs.declared.tag.WalkTag.{WalkTag}
use Rattle.walk_course.specs.Scenes.{tag_of}
use Rattle.viewer_session.specs.declared.pass.Walked.TheVariants.{Attached, Whole}
use Rattle.viewer_session.specs.Sessions.{PassSeen, IsSameWalk, IsWholeAt, tag_in}
use Rattle.viewer_session.specs.Advances.{IsStuck, IsOnCourse, HasFailed, HasRead, HasReadUpTo}
use Rattle.viewer_session.specs.Answers.{HasAnsweredOn}
use Rattle.batch_blocks.specs.Blocks.{plan_in, IsAnswerText}
use Rattle.http_text.specs.declared.routes.Route.{Route}
use Rattle.http_text.specs.declared.routes.Route.TheVariants.{Tiles, Prefix, NotFound}
use Rattle.http_front.specs.Table.{Answered, refused, busy, read_fault, text, no_memory}
use Rattle.scene_viewers.specs.Viewers.{ViewersSeen}

-- The text of the first words of the walk of a plan, so many, and of an end: where the files are told the words are
-- those of the answer's first tiles, and an end other than `partial` is that of the answer, all tiles of which are
-- there
pub record IsFrontText (told : Option Files) (layout : Layout) (plan : Plan) (count : ℕ) (end : WalkEnd) (body : List ℕ)
    : Type 0 where
  pub words : List ℕ
  pub count_is : length words ≡ count
  pub of_layout : AreTilesOf layout words × EndsWithin layout end
  pub of_answer : IfSome told (λ all.
      (words ≡ take count (map (tile_word (scene_of all layout)) (answer (scene_of all layout) plan.region).tiles))
      × IsWholeAt (scene_of all layout) plan.region count end)
  pub text_is : body ≡ words_text layout words (end_seen layout.scheme end)

-- The text is that of what is published of a walk: no less than one cursor had seen of it before, and no more than the
-- cursor has seen now, which is on the same walk
pub record IsPublishedText (told : Option Files) (layout : Layout) (before cursor : CursorSeen WalkTag) (body : List ℕ)
    : Type 0 where
  pub steps : ℕ
  pub count : ℕ
  pub end : WalkEnd
  pub text : IsFrontText told layout before.plan count end body
  pub same : IsSameWalk before cursor
  pub since : NoFurther before.seat.steps before.seat.length before.seat.end steps count end
  pub until : NoFurther steps count end cursor.seat.steps cursor.seat.length cursor.seat.end

-- the cursor that is kept is on the walk of the plan
abbrev pub IsOfPlan : Plan → Option (CursorSeen WalkTag) → Type 0
IsOfPlan plan kept = IsSomeAnd kept (λ cursor. cursor.plan ≡ plan)

-- The text is of what is published of the walk of a plan, by a cursor. Where the cursor that was kept is of the plan,
-- it is used and the registry isn't asked; else the cursor is that of an attach to the plan
abbrev pub IsPrefixBy : Plan → WalkScene → Option (CursorSeen WalkTag) → CursorSeen WalkTag → PassSeen → PassSeen
    → List ℕ → Type 0
IsPrefixBy plan scene kept cursor old new body =
    (IsSomeAnd kept (λ before. (before.plan ≡ plan) × IsPublishedText scene.told scene.layout before cursor body)
    × (new ≡ old))
    ⊎ ((IsOfPlan plan kept → ⊥) × (new.walked ≡ old.walked ++ Attached plan ∷ [])
    × ((first : CursorSeen WalkTag) × HasAttached tag_of scene plan new.walks.last new.walks.gave first
    × IsPublishedText scene.told scene.layout first cursor body))

module _ {S : Type 0} (told : S → Option Files) (faults fetches : S → ℕ) where
  -- ---- on /tiles

  -- The answer to a plan has this text, and the cursor that it was read off is kept. The source has not failed, and
  -- what was fetched was for roots of the plan's walk
  pub record HasAnswered (plan : Plan) (old new : ViewersSeen S) (body : List ℕ) : Type 0 where
    pub text : IsAnswerText old.scene.tileset.told old.scene.tileset.layout plan body
    pub kept : IsSomeAnd new.kept (λ cursor. (end : WalkEnd)
        × HasAnsweredOn old.scene.tileset plan new.pass.walks.last new.pass.walks.gave end cursor)
    pub walked : new.pass.walked ≡ old.pass.walked ++ Whole plan ∷ []
    pub sure : faults new.files ≡ faults old.files
    pub busies : new.pass.frames.note.busies ≡ old.pass.frames.note.busies
    pub read : HasRead (tag_in old.scene plan) old.pass.frames new.pass.frames (fetches old.files)
        (fetches new.files)

  -- There is no answer: the text and the cursor are as before, nothing was walked, and what was fetched was for
  -- roots of the plan's walk
  pub record HasStopped (plan : Plan) (old new : ViewersSeen S) : Type 0 where
    pub kept : new.kept ≡ old.kept
    pub text : new.text ≡ old.text
    pub walked : new.pass.walked ≡ old.pass.walked
    pub read : HasReadUpTo (tag_in old.scene plan) old.pass.frames new.pass.frames (fetches old.files)
        (fetches new.files)

  -- A text is the answer's. `busy` comes only where every frame was in use, and none had the next root of the walk;
  -- `read_fault` only where the source has counted a fault, for a root of the walk
  abbrev pub AnswersTiles : Plan → ViewersSeen S → ViewersSeen S → Answered → Type 0
  AnswersTiles plan old new (refused k) = ⊥
  AnswersTiles plan old new busy = HasStopped plan old new × (faults new.files ≡ faults old.files)
      × IsStuck (IsOnCourse (tag_in old.scene plan)) old.pass.frames new.pass.frames
  AnswersTiles plan old new read_fault = HasStopped plan old new × Rose (faults old.files) (faults new.files)
      × (new.pass.frames.note.busies ≡ old.pass.frames.note.busies)
      × HasFailed (IsOnCourse (tag_in old.scene plan)) new.pass.frames
  AnswersTiles plan old new (text body) = HasAnswered plan old new body
  AnswersTiles plan old new no_memory = HasStopped plan old new × (faults new.files ≡ faults old.files)
      × (new.pass.frames.note.busies ≡ old.pass.frames.note.busies)

  -- ---- on /prefix

  -- the source isn't asked, and no frame is taken
  abbrev pub IsAside : ViewersSeen S → ViewersSeen S → Type 0
  IsAside old new = (new.files ≡ old.files) × (new.pass.frames ≡ old.pass.frames)

  -- a text is that of the published words and their end, and its cursor is kept: nothing is read, and nothing that was
  -- seen of the walk is taken back
  abbrev pub AnswersPrefix : Plan → ViewersSeen S → ViewersSeen S → Answered → Type 0
  AnswersPrefix plan old new (refused k) = ⊥
  AnswersPrefix plan old new busy = ⊥
  AnswersPrefix plan old new read_fault = ⊥
  AnswersPrefix plan old new (text body) =
      IsSomeAnd new.kept (λ cursor. (cursor.plan ≡ plan) × IsPrefixBy plan old.scene.tileset
      old.kept cursor old.pass new.pass body)
  AnswersPrefix plan old new no_memory = new.text ≡ old.text

  -- ---- on any route

  -- a line is refused by the first rule that it breaks, which changes nothing; else its plan is answered. Nobody asks
  -- on another route
  abbrev pub AnswersRead : Result Plan ℕ → ViewersSeen S → ViewersSeen S → Route → Answered → Type 0
  AnswersRead (Err k) old new route answered = (answered ≡ refused k) × (new ≡ old)
  AnswersRead (Ok plan) old new Tiles answered = AnswersTiles plan old new answered
  AnswersRead (Ok plan) old new Prefix answered = AnswersPrefix plan old new answered × IsAside old new
  AnswersRead (Ok plan) old new NotFound answered = (answered ≡ no_memory) × (new ≡ old)

  -- what may be answered to a line on a route: the scene stays
  abbrev pub MayAnswer : ViewersSeen S → ViewersSeen S → Route → List ℕ → Answered → Type 0
  MayAnswer old new route line answered = (new.scene ≡ old.scene)
      × AnswersRead (plan_in old.scene.tileset.layout line) old new route answered
