-- What reading a layout answers: the layout or the first fault of the bytes, or that there was no memory, which comes
-- freely (this project's own).
use Rattle.std.specs.Prelude.{ℕ, ◌≡◌, ◌≤◌, Result, Ok, Err}
use Rattle.implicit_tiling.specs.Limits.{most_layout_fault}
use Rattle.implicit_tiling.specs.Scene.{Layout}
use Rattle.tileset_json.specs.declared.fault.LayoutFault.{LayoutFault}
use Rattle.tileset_json.specs.declared.fault.LayoutFault.TheVariants.{Number, Memory}

-- the numbers of the faults that bytes show
abbrev pub IsFaultOfBytes : ℕ → Type 0
IsFaultOfBytes n = (3 ≤ n) × (n ≤ most_layout_fault)

abbrev pub ReadsLayout : Result Layout ℕ → Result Layout LayoutFault → Type 0
ReadsLayout read (Ok layout) = read ≡ Ok layout
ReadsLayout read (Err (Number n)) = (read ≡ Err n) × IsFaultOfBytes n
ReadsLayout read (Err Memory) = Unit {0}
