use Rattle.request_text.specs.Lines.{line_seen}
use Rattle.commands.specs.Tiles.{line_reply}
use Rattle.commands.proofs.Answering.{told_early}
use Rattle.commands.proofs.Ends.{tiles_early}
use Rattle.commands.proofs.tiles.run.Goals as goal

pub returns-in-Err-clause-replies : goal.returns-in-Err-clause-replies
returns-in-Err-clause-replies g c = told_early _ (λ s. line_reply s (line_seen c.args.line.now)) c.in-Err.status _ c.in-Err.ensures.early c.in-Err.ensures.agrees

pub returns-in-Err-clause-ends : goal.returns-in-Err-clause-ends
returns-in-Err-clause-ends g c = tiles_early c.in-Err.status c.in-Err.ensures.early
