use Rattle.commands.specs.Check.{check_reply}
use Rattle.commands.proofs.Answering.{told_early}
use Rattle.commands.proofs.Ends.{check_early}
use Rattle.commands.proofs.check.run.Goals as goal

pub returns-in-Err-clause-replies : goal.returns-in-Err-clause-replies
returns-in-Err-clause-replies g c = told_early _ check_reply c.in-Err.status _ c.in-Err.ensures.early c.in-Err.ensures.agrees

pub returns-in-Err-clause-ends : goal.returns-in-Err-clause-ends
returns-in-Err-clause-ends g c = check_early c.in-Err.status c.in-Err.ensures.early
