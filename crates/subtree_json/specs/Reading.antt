-- What the reader of a subtree's JSON answers, beside what is stated (this project's own).
use Rattle.std.specs.Prelude.{ℕ, ◌≡◌, Option, Some, None, Result, Ok, Err}
use Rattle.subtree_json.specs.declared.fault.JsonFault.{JsonFault}
use Rattle.subtree_json.specs.Faults.{fault_number}

-- a fault with a number is the one that is stated; one without a number comes of memory alone
abbrev pub IsStated : {A : Type 0} → Result A ℕ → Option ℕ → Type 0
IsStated stated (Some n) = stated ≡ Err n
IsStated stated None = Unit {0}

-- what is stated, or its fault, unless there isn't enough memory
abbrev pub ReadsPart : {A : Type 0} → Result A ℕ → Result A JsonFault → Type 0
ReadsPart stated (Ok a) = stated ≡ Ok a
ReadsPart stated (Err fault) = IsStated stated (fault_number fault)
