-- Tiles and their parents, by the places of their words.
use Rattle.std.proofs.Common.{◌^◌, ◌≡◌, ℕ, ◌<◌, List, length, subst, arith, sym, ap, ◌∙◌, inl, inr}
use Rattle.std.specs.Prelude.{slice_index}
use Rattle.std.specs.List.{Contains}
use Rattle.implicit_tiling.specs.declared.Scheme.{Scheme}
use Rattle.implicit_tiling.specs.Tile.{Tile, IsTile, root, parent}
use Rattle.implicit_tiling.specs.Code.{word_tile}
use Rattle.tiling_laws.proofs.TileAt.{same_tile}
use Rattle.std.proofs.lemmas.List.Elements.{All-map, All-from_get_or}
use Rattle.tile_occupancy.specs.Occupied.{HasParent, HaveParents, tiles_of}
use Rattle.tile_occupancy.proofs.Keys.{places, tile_of_place}

-- the one tile of level 0
none_but_zero : (x level : ℕ) → level ≡ 0 → x < 2 ^ level → x ≡ 0
none_but_zero x level zero h = let below : x < 2 ^ 0 = subst (λ l. x < 2 ^ l) zero h in omega (arith, below)

pub only_root : (scheme : Scheme) (t : Tile) → IsTile scheme t → t.level ≡ 0 → t ≡ root
only_root scheme t is zero =
    same_tile t root zero (none_but_zero t.x t.level zero is.x_fits) (none_but_zero t.y t.level zero is.y_fits) (none_but_zero t.z t.level zero is.z_fits)

pub parents_from : (scheme : Scheme) (ws : List ℕ) → ((i : ℕ) → i < length ws → HasParent (tiles_of scheme ws) (word_tile scheme (slice_index ws i)))
    → HaveParents scheme ws
parents_from scheme ws each = All-map (HasParent (tiles_of scheme ws)) (word_tile scheme) ws (All-from_get_or (λ w. HasParent (tiles_of scheme ws) (word_tile scheme w)) ws 0 each)

pub parent_at : (scheme : Scheme) (ws : List ℕ) (i : ℕ) → i < length ws → HaveParents scheme ws → HasParent (tiles_of scheme ws) (word_tile scheme (slice_index ws i))
parent_at scheme ws i within all =
    subst (HasParent (tiles_of scheme ws)) (tile_of_place scheme ws i 0 root within) (all i root (omega (arith, places scheme ws)))

pub no_parent : (scheme : Scheme) (ws : List ℕ) (i : ℕ) (t p : Tile) → i < length ws → t ≡ word_tile scheme (slice_index ws i) → (t.level ≡ 0 → ⊥) → p ≡ parent t
    → (Contains (tiles_of scheme ws) p → ⊥) → HaveParents scheme ws → ⊥
no_parent scheme ws i t p within at below up none all =
    elim (parent_at scheme ws i within all) [
      | inl top ↦ below (ap (λ (u : Tile). u.level) (at ∙ top))
      | inr there ↦ none (subst (Contains (tiles_of scheme ws)) (sym (up ∙ ap parent at)) there)
    ]
