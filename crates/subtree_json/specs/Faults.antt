-- The numbers of the faults of the JSON part in the table of faults of a subtree file (this project's own).
use Rattle.std.specs.Prelude.{ℕ, Option, Some, None}
use Rattle.subtree_json.specs.declared.fault.JsonFault.{JsonFault}
use Rattle.subtree_json.specs.declared.fault.JsonFault.TheVariants.{BadJson, NotObject, BadBuffers, BadViews}
use Rattle.subtree_json.specs.declared.fault.JsonFault.TheVariants.{BadAvailability, Memory}

abbrev pub fault_number : JsonFault → Option ℕ
fault_number BadJson = Some 7
fault_number NotObject = Some 8
fault_number BadBuffers = Some 9
fault_number BadViews = Some 10
fault_number BadAvailability = Some 11
fault_number Memory = None
