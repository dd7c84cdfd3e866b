-- For proofs and inner functions: the numbers of the faults of a subtree file that its record and its bits show (this
-- project's own).
use Rattle.std.specs.Prelude.{ℕ, Option, Some, None}
use Rattle.subtree_file.specs.declared.fault.BitsFault.{BitsFault}
use Rattle.subtree_file.specs.declared.fault.BitsFault.TheVariants.{ViewUnknown, NoBuffer, BufferMissing, BuffersLong}
use Rattle.subtree_file.specs.declared.fault.BitsFault.TheVariants.{ViewOut, BitsShort, CountWrong, ParentMissing}
use Rattle.subtree_file.specs.declared.fault.BitsFault.TheVariants.{ContentWithoutTile}
use Rattle.subtree_file.specs.declared.fault.DecodeFault.{DecodeFault}
use Rattle.subtree_file.specs.declared.fault.DecodeFault.TheVariants.{Fault, Memory}
use Rattle.availability.specs.declared.subtree.RuleFault.{RuleFault}
use Rattle.availability.specs.declared.subtree.RuleFault.TheVariants.{ParentMissing as parent_missing}
use Rattle.availability.specs.declared.subtree.RuleFault.TheVariants.{ContentWithoutTile as content_without_tile}

abbrev pub bits_fault_number : BitsFault → ℕ
bits_fault_number ViewUnknown = 12
bits_fault_number NoBuffer = 13
bits_fault_number BufferMissing = 19
bits_fault_number BuffersLong = 20
bits_fault_number ViewOut = 14
bits_fault_number BitsShort = 15
bits_fault_number CountWrong = 16
bits_fault_number ParentMissing = 17
bits_fault_number ContentWithoutTile = 18

-- the fault of a rule between bits
abbrev pub fault_of_rule : RuleFault → BitsFault
fault_of_rule parent_missing = ParentMissing
fault_of_rule content_without_tile = ContentWithoutTile

-- a fault without a number comes of memory
abbrev pub fault_numbered : Option ℕ → DecodeFault
fault_numbered (Some n) = Fault n
fault_numbered None = Memory
