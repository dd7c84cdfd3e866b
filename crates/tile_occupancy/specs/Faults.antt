-- The first fault of a list of words that isn't whole (this project's own).
use Rattle.std.specs.Prelude.{ℕ, List}
use Rattle.implicit_tiling.specs.declared.Scheme.{Scheme}
use Rattle.tile_occupancy.specs.Occupied.{AreWordsBelow, KeysRise, HaveParents}
use Rattle.tile_occupancy.specs.declared.occupancy.OccupancyFault.{OccupancyFault}
use Rattle.tile_occupancy.specs.declared.occupancy.OccupancyFault.TheVariants.{BadWord, Order, ParentMissing}

-- each fault where it holds, and none before it
abbrev pub IsFirstFault : Scheme → ℕ → List ℕ → OccupancyFault → Type 0
IsFirstFault scheme levels words BadWord = AreWordsBelow scheme levels words → ⊥
IsFirstFault scheme levels words Order = AreWordsBelow scheme levels words × (KeysRise scheme words → ⊥)
IsFirstFault scheme levels words ParentMissing = AreWordsBelow scheme levels words × KeysRise scheme words
    × (HaveParents scheme words → ⊥)
