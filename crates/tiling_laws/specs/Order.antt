-- The order of tiles by their keys, and the list of all tiles (this project's own).
use Rattle.std.specs.Prelude.{◌≡◌, ℕ, ◌≤◌, ◌↔◌, ◌⊎◌, true, false, List}
use Rattle.std.specs.List.{Contains}
use Rattle.implicit_tiling.specs.declared.Scheme.{Scheme}
use Rattle.implicit_tiling.specs.Tile.{Tile, IsTile, is_key_below, IsInKeyOrder, all_tiles}

-- no key is below itself, keys below one another make a chain, and of two tiles one is below the other or they are one
pub record IsStrictOrder (scheme : Scheme) : Type 0 where
  pub irreflexive : (t : Tile) → is_key_below scheme t t ≡ false
  pub transitive : (t u v : Tile) → is_key_below scheme t u ≡ true → is_key_below scheme u v ≡ true
      → is_key_below scheme t v ≡ true
  pub total : (t u : Tile) → IsTile scheme t → IsTile scheme u → (t ≡ u) ⊎ ((is_key_below scheme t u ≡ true)
      ⊎ (is_key_below scheme u t ≡ true))

abbrev pub KeysAreAnOrder : Type 0
KeysAreAnOrder = (scheme : Scheme) → IsStrictOrder scheme

-- the list of the levels 0 to last is in key order
abbrev pub AllTilesAreInKeyOrder : Type 0
AllTilesAreInKeyOrder = (scheme : Scheme) (last : ℕ) → IsInKeyOrder scheme (all_tiles scheme last)

-- it has each tile of these levels, and nothing else
abbrev pub AllTilesAreThere : Type 0
AllTilesAreThere = (scheme : Scheme) (last : ℕ) (t : Tile) → Contains (all_tiles scheme last) t
    ↔ (IsTile scheme t × (t.level ≤ last))

-- two lists in key order which have the same tiles are one list
abbrev pub RisingListsAreOne : Type 0
RisingListsAreOne = (scheme : Scheme) (one other : List Tile)
    → IsInKeyOrder scheme one → IsInKeyOrder scheme other → ((t : Tile) → Contains one t ↔ Contains other t)
    → one ≡ other
