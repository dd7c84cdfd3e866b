-- For proofs and inner functions: what the reader of a file's parts answers, beside what is stated (this project's
-- own).
use Rattle.std.specs.Prelude.{ℕ, ◌≡◌, option_map, Result, Ok, Err}
use Rattle.implicit_tileset.specs.SubtreeFile.{Parts as parts}
use Rattle.implicit_tileset.specs.FileForms.{FileParts as file_parts}
use Rattle.subtree_file.specs.declared.parts.FileParts.{FileParts}
use Rattle.subtree_file.specs.declared.parts.Parts.{Parts}
use Rattle.subtree_file.specs.declared.parts.PartsFault.{PartsFault}
use Rattle.subtree_file.specs.declared.parts.PartsFault.TheVariants.{ShortHeader, BadMagic, BadVersion, Truncated}

abbrev pub parts_fault_number : PartsFault → ℕ
parts_fault_number ShortHeader = 3
parts_fault_number BadMagic = 4
parts_fault_number BadVersion = 5
parts_fault_number Truncated = 6

-- the parts of the program, seen as those of the definitions
abbrev pub parts_seen : Parts → parts
parts_seen p = record { json = p.json.now; binary = p.binary.now }

-- the parts that are stated, or their fault
abbrev pub ReadsParts : Result parts ℕ → Result Parts PartsFault → Type 0
ReadsParts stated (Ok p) = stated ≡ Ok (parts_seen p)
ReadsParts stated (Err fault) = stated ≡ Err (parts_fault_number fault)

-- the same of both forms
abbrev pub file_parts_seen : FileParts → file_parts
file_parts_seen p = record { json = p.json.now; binary = option_map (λ b. b.now) p.binary }

abbrev pub ReadsFileParts : Result file_parts ℕ → Result FileParts PartsFault → Type 0
ReadsFileParts stated (Ok p) = stated ≡ Ok (file_parts_seen p)
ReadsFileParts stated (Err fault) = stated ≡ Err (parts_fault_number fault)
