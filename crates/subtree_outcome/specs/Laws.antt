-- What holds of each scene of files (this project's own).
use Rattle.implicit_tiling.specs.Files.{Files}
use Rattle.implicit_tiling.specs.Scene.{Layout}
use Rattle.implicit_tileset.specs.Scene.{scene_of}
use Rattle.subtree_outcome.specs.Outcomes.{HasNoOrphans}

abbrev pub FilesHaveNoOrphans : Type 0
FilesHaveNoOrphans = (all : Files) (layout : Layout) → HasNoOrphans (scene_of all layout)
