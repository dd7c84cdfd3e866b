use Rattle.walk_course.specs.Scenes.{tag_of}
use Rattle.viewer_session.proofs.walks.SceneWalksStartsPlanWalk.start.Given as goal

abbrev pub ghosts-begin_in : goal.ghosts-begin_in
ghosts-begin_in a = record { told = tag_of a.scene.now.value a.plan }
