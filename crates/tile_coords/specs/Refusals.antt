-- For proofs and inner functions: what `Region::new` answers, with its fault as a number (this project's own).
use Rattle.std.specs.Prelude.{ℕ, Result, Ok, Err}
use Rattle.implicit_tiling.specs.Region.{Region}
use Rattle.tile_coords.specs.declared.region.RegionFault.{RegionFault}
use Rattle.tile_coords.specs.declared.region.RegionFault.TheVariants.{LevelHigh, BoxOrder, BoxOut}

abbrev pub region_fault_number : RegionFault → ℕ
region_fault_number LevelHigh = 1
region_fault_number BoxOrder = 2
region_fault_number BoxOut = 3

abbrev pub with_fault_number : Result Region RegionFault → Result Region ℕ
with_fault_number (Ok region) = Ok region
with_fault_number (Err fault) = Err (region_fault_number fault)
