-- Points are tiles.
use Rattle.std.proofs.Common.{ℕ, ◌+◌, ◌-◌, ◌*◌, ◌^◌, refl}
use Rattle.std.proofs.lemmas.Nat.{mod_below, pow_pos}
use Rattle.implicit_tiling.specs.declared.Scheme.{Scheme}
use Rattle.implicit_tiling.specs.declared.Scheme.TheVariants.{Quad, Oct}
use Rattle.implicit_tiling.specs.Tile.{IsTile}
use Rattle.tile_occupancy.specs.Generated.{point}

pub points_are_tiles : (scheme : Scheme) (levels number k : ℕ) → IsTile scheme (point scheme levels number k)
points_are_tiles Quad levels number k = record {
  x_fits = mod_below (number + 40503 * k) (2 ^ (levels - 1)) (pow_pos (levels - 1));
  y_fits = mod_below (3 * number + 30011 * k) (2 ^ (levels - 1)) (pow_pos (levels - 1));
  z_fits = pow_pos (levels - 1);
  flat = refl;
}
points_are_tiles Oct levels number k = record {
  x_fits = mod_below (number + 40503 * k) (2 ^ (levels - 1)) (pow_pos (levels - 1));
  y_fits = mod_below (3 * number + 30011 * k) (2 ^ (levels - 1)) (pow_pos (levels - 1));
  z_fits = mod_below (7 * number + 20011 * k) (2 ^ (levels - 1)) (pow_pos (levels - 1));
  flat = refl;
}
