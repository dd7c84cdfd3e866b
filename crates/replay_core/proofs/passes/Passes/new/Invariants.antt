use Rattle.std.proofs.Common.{◌≡◌, replicate, None}
use Rattle.replay_machine.specs.declared.pass.Held.TheVariants.{Nothing as no_frame}
use Rattle.replay_machine.specs.declared.pass.Pass.{Pass}
use Rattle.replay_core.proofs.passes.Passes.new.Given as goal

abbrev pub invariant-loop : goal.invariant-loop
invariant-loop l = let fresh : Pass = record { cursor = None; place = 0; frame = no_frame } in l.list.items ≡ replicate l.counter fresh
