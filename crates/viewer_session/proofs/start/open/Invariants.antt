use Rattle.viewer_session.proofs.start.open.Given as goal

abbrev pub ghosts-opened-J-Tells : goal.ghosts-opened-J-Tells
ghosts-opened-J-Tells g a = record { told = record { told = g.S.FileSource.told a.files.now; layout = a.layout } }

abbrev pub ghosts-opened-H-Tells : goal.ghosts-opened-H-Tells
ghosts-opened-H-Tells g a = record { told = a.host.now }
