-- The statuses of a batch, by the layout of the files.
use Rattle.std.proofs.Common.{◌≡◌, ℕ, ◌≤◌, Bool, true, false, ◌∷◌, [], sym, subst, arith}
use Rattle.std.proofs.lemmas.Bool.Decides.{nat_tests}
use Rattle.std.specs.Prelude.{Option, Some, None, IfSome, Result, Ok, Err, ◌==◌, ◌||◌}
use Rattle.std.proofs.lemmas.Bool.{false≢true}
use Rattle.implicit_tiling.specs.Files.{Files}
use Rattle.implicit_tiling.specs.Scene.{Layout}
use Rattle.implicit_tileset.specs.Scene.{layout_in}
use Rattle.input_bytes.specs.Input.{IsShort}
use Rattle.program_status.specs.Sets.{IsOneOf, Passes, layout_faults}
use Rattle.program_status.specs.declared.status.Status.{Status}
use Rattle.program_status.specs.declared.status.Status.TheVariants.{Done, BadLayout, ReadFault, WriteFault, InputFault, Memory, InputLong}
use Rattle.program_status.proofs.Members.{in_larger, numbered}
use Rattle.shared_commands.specs.Batch.{ends_over, batch_ends}

pub bad_ends : (n : ℕ) → (1 ≤ n) × (n ≤ 12) → IsOneOf batch_ends (BadLayout n)
bad_ends n within =
    in_larger Done (WriteFault ∷ InputFault ∷ InputLong ∷ ReadFault ∷ Memory ∷ layout_faults) (BadLayout n)
    (in_larger WriteFault (InputFault ∷ InputLong ∷ ReadFault ∷ Memory ∷ layout_faults) (BadLayout n)
    (in_larger InputFault (InputLong ∷ ReadFault ∷ Memory ∷ layout_faults) (BadLayout n)
    (in_larger InputLong (ReadFault ∷ Memory ∷ layout_faults) (BadLayout n)
    (in_larger ReadFault (Memory ∷ layout_faults) (BadLayout n)
    (in_larger Memory layout_faults (BadLayout n) (numbered n within.0 within.1))))))

same_number : (n : ℕ) → (n == n) ≡ true
same_number n = grind (arith, nat_tests)

holds : (a b : Bool) → a ≡ true → Passes (a || b)
holds true b h = tt
holds false b h = absurd (false≢true h)

first_bad : (n : ℕ) → IsOneOf (BadLayout n ∷ ReadFault ∷ Memory ∷ []) (BadLayout n)
first_bad n = holds (n == n) _ (same_number n)

-- the first fault of `tileset.json`
pub bad_over : (files : Option Files) (n : ℕ) → IfSome files (λ all. layout_in all ≡ Err n) → IfSome files (λ all. IsOneOf (ends_over (layout_in all)) (BadLayout n))
bad_over None n h = tt
bad_over (Some all) n h = subst (λ r. IsOneOf (ends_over r) (BadLayout n)) (sym h) (first_bad n)

read_fault_in : (r : Result Layout ℕ) → IsOneOf (ends_over r) ReadFault
read_fault_in (Ok layout) = tt
read_fault_in (Err n) = tt

memory_in : (r : Result Layout ℕ) → IsOneOf (ends_over r) Memory
memory_in (Ok layout) = tt
memory_in (Err n) = tt

pub read_fault_over : (files : Option Files) → IfSome files (λ all. IsOneOf (ends_over (layout_in all)) ReadFault)
read_fault_over None = tt
read_fault_over (Some all) = read_fault_in (layout_in all)

pub memory_over : (files : Option Files) → IfSome files (λ all. IsOneOf (ends_over (layout_in all)) Memory)
memory_over None = tt
memory_over (Some all) = memory_in (layout_in all)

-- what comes after the layout was read
pub ends_after : (files : Option Files) (layout : Layout) (status : Status) → IfSome files (λ all. layout_in all ≡ Ok layout) → IsOneOf (ends_over (Ok layout)) status
    → IfSome files (λ all. IsOneOf (ends_over (layout_in all)) status)
ends_after None layout status h is = tt
ends_after (Some all) layout status h is = subst (λ r. IsOneOf (ends_over r) status) (sym h) is

-- nothing was taken
pub none_taken : (taken : ℕ) → IsShort taken taken
none_taken taken = (0, omega arith, omega arith)
