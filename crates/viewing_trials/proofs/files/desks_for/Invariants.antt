use Rattle.std.proofs.Common.{◌≡◌, length}
use Rattle.std.specs.Prelude.{None}
use Rattle.std.specs.List.{All}
use Rattle.shared_commands.specs.Desks.{IsFree}
use Rattle.viewing_trials.proofs.files.desks_for.Given as goal

-- so many desks are there, each free
abbrev pub invariant-loop : goal.invariant-loop
invariant-loop l = (length l.desks.items ≡ l.counter) × All (IsFree (λ source. None) None) l.desks.items
