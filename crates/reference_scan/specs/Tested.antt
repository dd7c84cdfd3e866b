-- For proofs and inner functions: what the test of one node gives.
use Rattle.std.specs.Prelude.{Bool, true, false, Option, Some, None}

-- the value where the test holds
abbrev pub some_if : {X : Type 0} → Bool → X → Option X
some_if true x = Some x
some_if false x = None
