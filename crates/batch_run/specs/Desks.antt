-- What contracts see of the place of a worker, and of what answers its plans (this project's own).
use Rattle.std.specs.Prelude.{◌≡◌, List, [], Bool, Option, Some, None, IsSomeAnd}
use Rattle.implicit_tiling.specs.Files.{Files}
use Rattle.implicit_tiling.specs.Scene.{Layout}
use Rattle.batch_blocks.specs.declared.reply.Reply.{Reply}

-- Its source, its pass while it has one, its replies to the lines of a round, whether memory was wanting for one, and
-- what the pass had walked that was taken out of it last
pub record DeskSeen (S P W : Type 0) : Type 0 where
  pub source : S
  pub pass : Option P
  pub replies : List Reply
  pub lacks_memory : Bool
  pub shown : List W

-- what a pass has walked, where there is one
abbrev pub walked_of : {P W : Type 0} → (P → List W) → Option P → List W
walked_of walked None = []
walked_of walked (Some pass) = walked pass

-- What answers plans for some passes: the files that its sources tell, its layout, and which passes are its own,
-- between two calls
pub record Viewed (P : Type 0) : Type 1 where
  pub told : Option Files
  pub layout : Layout
  pub is_pass : P → Type 0

-- a desk that has a pass, and whose source tells the files
pub record IsReady {S P W : Type 0} (told : S → Option Files) (scene : Viewed P) (desk : DeskSeen S P W) : Type 0 where
  pub pass : IsSomeAnd desk.pass scene.is_pass
  pub same_files : told desk.source ≡ scene.told
