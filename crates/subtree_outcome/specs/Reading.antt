-- For proofs and inner functions: what a fault of a file is as an outcome (this project's own).
use Rattle.std.specs.Prelude.{Result, Ok, Err}
use Rattle.subtree_file.specs.declared.fault.DecodeFault.{DecodeFault}
use Rattle.subtree_file.specs.declared.fault.DecodeFault.TheVariants.{Fault, Memory as memory}
use Rattle.subtree_outcome.specs.declared.outcome.Outcome.{Outcome}
use Rattle.subtree_outcome.specs.declared.outcome.Outcome.TheVariants.{Bad}
use Rattle.subtree_outcome.specs.declared.outcome.WalkStop.{WalkStop}
use Rattle.subtree_outcome.specs.declared.outcome.WalkStop.TheVariants.{Memory}

abbrev pub fault_outcome : DecodeFault → Result Outcome WalkStop
fault_outcome (Fault n) = Ok (Bad n)
fault_outcome memory = Err Memory
