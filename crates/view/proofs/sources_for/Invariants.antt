use Rattle.std.proofs.Common.{◌≡◌, length}
use Rattle.std.specs.Prelude.{None}
use Rattle.serve_command.specs.Serving.{AllTell}
use Rattle.view.proofs.sources_for.Given as goal

-- so many sources are there, each of which tells nothing
abbrev pub invariant-loop : goal.invariant-loop
invariant-loop l = (length l.sources.items ≡ l.counter) × AllTell (λ source. None) None l.sources.items
