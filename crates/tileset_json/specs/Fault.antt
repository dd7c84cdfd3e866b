-- For proofs and inner functions: the numbers of the faults of `tileset.json` that its bytes show (this project's own).
use Rattle.std.specs.Prelude.{ℕ}
use Rattle.tileset_json.specs.declared.fault.TilesetFault.{TilesetFault}
use Rattle.tileset_json.specs.declared.fault.TilesetFault.TheVariants.{BadJson, NotObject, NoImplicit, BadScheme}
use Rattle.tileset_json.specs.declared.fault.TilesetFault.TheVariants.{BadSubtreeLevels, BadAvailableLevels}
use Rattle.tileset_json.specs.declared.fault.TilesetFault.TheVariants.{BadSubtreeTemplate, BothContents, BadContent}
use Rattle.tileset_json.specs.declared.fault.TilesetFault.TheVariants.{TooManyContents}

abbrev pub tileset_fault_number : TilesetFault → ℕ
tileset_fault_number BadJson = 3
tileset_fault_number NotObject = 4
tileset_fault_number NoImplicit = 5
tileset_fault_number BadScheme = 6
tileset_fault_number BadSubtreeLevels = 7
tileset_fault_number BadAvailableLevels = 8
tileset_fault_number BadSubtreeTemplate = 9
tileset_fault_number BothContents = 10
tileset_fault_number BadContent = 11
tileset_fault_number TooManyContents = 12
