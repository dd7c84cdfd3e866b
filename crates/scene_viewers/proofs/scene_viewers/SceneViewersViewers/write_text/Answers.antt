use Rattle.std.proofs.Common.{◌∙◌}
use Rattle.scene_viewers.proofs.Texts.{front_given, text_same, text_of_view}
use Rattle.scene_viewers.proofs.scene_viewers.SceneViewersViewers.write_text.Goals as goal

pub returns-clause-front : goal.returns-clause-front
returns-clause-front g c =
    front_given _ _ _ _ _ _ _
    (text_same c.layout.result.now c.self.inside.scene.now.tileset.layout c.deref.result.now c.self.inside.words.items c.self.inside.end c.layout.ensures c.deref.ensures.value ∙ text_of_view c.self.view_is)
    c.in_ok-append_answer.ensures.given c.give_rest.ensures.front
