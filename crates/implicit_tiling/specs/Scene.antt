-- A layout, and what the file of each subtree root holds: what the availability of tiles is a relation of
-- (OGC 22-025r4, implicit tiling: implicit root tile, subtrees).
use Rattle.std.specs.Prelude.{ℕ, Bool, false, List, [], Option, Some, None}
use Rattle.implicit_tiling.specs.declared.Scheme.{Scheme}
use Rattle.implicit_tiling.specs.Tile.{Tile}

-- what `tileset.json` says of the implicit tiles: the scheme, the levels of a subtree and in all, and the templates
pub record Layout : Type 0 where
  pub scheme : Scheme
  pub subtree_levels : ℕ
  pub levels : ℕ
  pub subtree : List ℕ
  pub contents : List (List ℕ)

-- the bits of a subtree file: of its nodes by place, for each content that has any, and of child subtrees by index
pub record Bits : Type 0 where
  pub tiles : ℕ → Bool
  pub contents : List (ℕ → Bool)
  pub child : ℕ → Bool

-- what a subtree file holds: bits, or the number of its first fault
pub data Outcome : Type 0 where
  good : Bits → Outcome
  bad : ℕ → Outcome

pub record Scene : Type 0 where
  pub layout : Layout
  pub outcome : Tile → Outcome

-- the bits and the fault of an outcome: a faulty file has no bit that is 1
abbrev pub tile_bit_of : Outcome → ℕ → Bool
tile_bit_of (good bits) i = bits.tiles i
tile_bit_of (bad n) i = false

abbrev pub child_bit_of : Outcome → ℕ → Bool
child_bit_of (good bits) i = bits.child i
child_bit_of (bad n) i = false

abbrev pub content_bits_of : Outcome → List (ℕ → Bool)
content_bits_of (good bits) = bits.contents
content_bits_of (bad n) = []

abbrev pub fault_of : Outcome → Option ℕ
fault_of (good bits) = None
fault_of (bad n) = Some n
