use Rattle.std.proofs.Common.{length}
use Rattle.text_trials.proofs.scripts.letters_of.Given as goal

abbrev pub decreases-loop-event : goal.decreases-loop-event
decreases-loop-event l = length l.rest
