use Rattle.batch_run.proofs.desk.Desk.take_pass.Given as goal

-- the log that is kept is what the pass has walked
abbrev pub ghosts-walked_by : goal.ghosts-walked_by
ghosts-walked_by g a = record { told = g.P.Pass.walked a.pass.now }
