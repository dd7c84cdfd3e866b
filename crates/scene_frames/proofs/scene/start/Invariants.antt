use Rattle.scene_frames.proofs.scene.start.Given as goal

abbrev pub ghosts-told : goal.ghosts-told
ghosts-told g a = record { told = record { told = g.S.FileSource.told a.files.now; layout = a.layout.now } }
