use Rattle.std.proofs.Common.{◌+◌, length}
use Rattle.published_prefix.proofs.prefix.Prefix+C.publish.Given as goal

abbrev pub ghosts-store_step : goal.ghosts-store_step
ghosts-store_step g a = record { steps = a.head.now.steps + 1; count = a.head.now.length + length a.words.now; end = a.end.now }
