use Rattle.std.proofs.Common.{ℕ, zero, suc, ◌-◌, ◌/◌, ◌^◌, ◌<◌, sub-one, arith}
use Rattle.std.proofs.Math.Nat.{pow-suc}
use Rattle.tile_coords.proofs.tile.Tile.parent.Goals as goal

half-below : (x level : ℕ) → 0 < level → x < 2 ^ level → x / 2 < 2 ^ (level - 1)
half-below x zero some below = absurd (omega arith)
half-below x (suc level) some below = rw sub-one (omega (arith, pow-suc 2 level))

pub invariant_of-result : goal.invariant_of-result
invariant_of-result c =
    let own = c.self.invariant in
    let some : 0 < c.self.inside.level = omega arith in
    (omega arith, half-below _ _ some own.1, half-below _ _ some own.2, half-below _ _ some own.3)
