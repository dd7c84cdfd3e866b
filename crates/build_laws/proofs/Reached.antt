-- Each root that is reached has a made file.
use Rattle.std.proofs.Common.{◌≡◌, ℕ, zero, suc, ◌<◌, true, List, sym, subst, arith, inl, inr}
use Rattle.std.specs.Prelude.{◌&&◌, ◌||◌, ◌==◌, nat_lt}
use Rattle.std.specs.List.{Contains}
use Rattle.std.proofs.lemmas.Bool.{and_parts, cases_lt}
use Rattle.implicit_tiling.specs.Tile.{Tile, IsTile, parent}
use Rattle.implicit_tiling.specs.Scene.{Scene}
use Rattle.implicit_tiling.specs.Availability.{local_level, subtree_root, is_subtree_root, child_bit, is_available, is_reached}
use Rattle.tiling_laws.proofs.Ancestors.{ancestor_is_tile}
use Rattle.tiling_laws.proofs.Available.{reached_as_written}
use Rattle.tile_occupancy.proofs.Parents.{only_root}
use Rattle.build_laws.specs.Made.{made_roots}
use Rattle.build_laws.proofs.Under.{root_is_made, made_from}
use Rattle.build_laws.proofs.Outcomes.{IsMadeOf, tile_of_child_bit}

pub reached_starts : (s : Scene) (r : Tile) → is_reached s r ≡ true → is_subtree_root s.layout r ≡ true
reached_starts s r h =
    let parts = and_parts (is_subtree_root s.layout r && nat_lt r.level s.layout.levels) ((r.level == 0) || (is_available s (parent r) && child_bit s r)) h in
    (and_parts (is_subtree_root s.layout r) (nat_lt r.level s.layout.levels) parts.0).0

-- the root has one, and another is named in the file of the subtree above it, which is reached
made_at : (s : Scene) (words : List ℕ) (n : ℕ) (r : Tile) → IsMadeOf s words → IsTile s.layout.scheme r → r.level < n → is_reached s r ≡ true → Contains (made_roots s.layout words) r
made_at s words zero r made tile low reached = absurd (omega (arith, low))
made_at s words (suc n) r made tile low reached =
    elim (cases_lt 0 r.level) [
      | inl below ↦
          let starts = reached_starts s r reached in
          let named = (reached_as_written s r starts below).0 reached in
          let up = parent r in
          let up_tile = ancestor_is_tile s.layout.scheme 1 r tile in
          let above = made_at s words n (subtree_root s.layout up) made (ancestor_is_tile s.layout.scheme (local_level s.layout up) up up_tile) (omega (arith, low, below)) named.reached in
          made_from s.layout words r (tile_of_child_bit s words r made (record { tile = tile; below = below; starts = starts }) above named.bit) starts
      | inr top ↦ subst (Contains (made_roots s.layout words)) (sym (only_root s.layout.scheme r tile (omega (arith, top)))) (root_is_made s.layout words made.are.whole)
    ]

pub reached_is_made : (s : Scene) (words : List ℕ) (r : Tile) → IsMadeOf s words → IsTile s.layout.scheme r → is_reached s r ≡ true → Contains (made_roots s.layout words) r
reached_is_made s words r made tile reached = made_at s words (suc r.level) r made tile (omega arith) reached
