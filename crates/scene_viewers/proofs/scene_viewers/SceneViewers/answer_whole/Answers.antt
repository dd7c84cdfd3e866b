use Rattle.std.proofs.Common.{rules, refl}
use Rattle.scene_viewers.proofs.Texts.{whole_answered}
use Rattle.scene_viewers.proofs.scene_viewers.SceneViewers.answer_whole.Goals as goal

pub returns-in-Ok-clause-answered : goal.returns-in-Ok-clause-answered
returns-in-Ok-clause-answered g c =
    let done = c.in-Ok.ensures in
    whole_answered g.S.FileSource.told g.S.FileSource.faults g.S.FileSource.fetches c.args.plan _ _ _ c.answer-answered.new.words.items c.in-Ok.whole.end c.in-Ok.whole.cursor _ c.self.view_is
    c.ready.ensures.text refl refl c.requires.plan c.requires.within done.found done.end.0 done.answer done.shared done.walked (search rules) (search rules) done.read
