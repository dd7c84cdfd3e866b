use Rattle.std.specs.Prelude.{None}
use Rattle.walking_trials.proofs.courses.begun.Given as goal

abbrev pub ghosts-begin : goal.ghosts-begin
ghosts-begin a = record { told = record { told = None; layout = a.layout.now; region = a.plan.region } }
