-- The region of all tiles.
use Rattle.std.proofs.Common.{◌≡◌, ℕ, zero, suc, ◌+◌, ◌-◌, ◌*◌, ◌/◌, ◌^◌, ◌<◌, ◌≤◌, true, ap, ◌∙◌, arith}
use Rattle.std.specs.Prelude.{◌&&◌, nat_le, slice_index}
use Rattle.std.proofs.Math.Nat.{mul-le-mul_right}
use Rattle.std.proofs.lemmas.Nat.{pow-add, pow_pos, shr_le, le-div}
use Rattle.std.proofs.lemmas.Bool.{and_from, le-leb}
use Rattle.implicit_tiling.specs.declared.Scheme.{Scheme}
use Rattle.implicit_tiling.specs.declared.Scheme.TheVariants.{Quad, Oct}
use Rattle.implicit_tiling.specs.Tile.{Tile, IsTile, depth_of}
use Rattle.implicit_tiling.specs.Region.{is_in, is_within}
use Rattle.walk_laws.specs.Regions.{IsRegion, last_coordinate, whole}

last_below : (levels : ℕ) → last_coordinate levels < 2 ^ (levels - 1)
last_below levels = omega (arith, pow_pos (levels - 1))

depth_below : (scheme : Scheme) (levels : ℕ) → depth_of scheme (last_coordinate levels) < 2 ^ (levels - 1)
depth_below Quad levels = pow_pos (levels - 1)
depth_below Oct levels = last_below levels

whole_ordered : (scheme : Scheme) (levels axis : ℕ) → axis < 3 → slice_index (whole scheme levels).lo axis ≤ slice_index (whole scheme levels).hi axis
whole_ordered scheme levels zero low = omega arith
whole_ordered scheme levels (suc zero) low = omega arith
whole_ordered scheme levels (suc (suc zero)) low = omega arith
whole_ordered scheme levels (suc (suc (suc axis))) low = absurd (omega arith)

whole_fits : (scheme : Scheme) (levels axis : ℕ) → axis < 3 → slice_index (whole scheme levels).hi axis < 2 ^ (levels - 1)
whole_fits scheme levels zero low = last_below levels
whole_fits scheme levels (suc zero) low = last_below levels
whole_fits scheme levels (suc (suc zero)) low = depth_below scheme levels
whole_fits scheme levels (suc (suc (suc axis))) low = absurd (omega arith)

pub whole_is_a_region : (scheme : Scheme) (levels : ℕ) → IsRegion (whole scheme levels)
whole_is_a_region scheme levels = record { ordered = whole_ordered scheme levels; fits = whole_fits scheme levels }

-- a coordinate is within the whole box
within_whole : (n k c : ℕ) → c < 2 ^ n → is_within k 0 (2 ^ (n + k) - 1) c ≡ true
within_whole n k c h =
    let room : (c + 1) * 2 ^ k ≤ 2 ^ n * 2 ^ k = mul-le-mul_right (2 ^ k) (omega arith) in
    let high = le-div c (2 ^ (n + k) - 1) (2 ^ k) (pow_pos k) (omega (arith, room, pow-add 2 n k, pow_pos k)) in
    and_from (nat_le (0 / 2 ^ k) c) (nat_le c ((2 ^ (n + k) - 1) / 2 ^ k)) (le-leb (0 / 2 ^ k) c (omega (arith, shr_le 0 k))) (le-leb c ((2 ^ (n + k) - 1) / 2 ^ k) high)

within_flat : (k c : ℕ) → c ≡ 0 → is_within k 0 0 c ≡ true
within_flat k c none =
    and_from (nat_le (0 / 2 ^ k) c) (nat_le c (0 / 2 ^ k)) (le-leb (0 / 2 ^ k) c (omega (arith, shr_le 0 k))) (le-leb c (0 / 2 ^ k) (omega arith))

within_last : (levels n c : ℕ) → n < levels → c < 2 ^ n → is_within (levels - 1 - n) 0 (last_coordinate levels) c ≡ true
within_last levels n c low h =
    let up : levels - 1 ≡ n + (levels - 1 - n) = omega arith in
    ap (λ e. is_within (levels - 1 - n) 0 (2 ^ e - 1) c) up ∙ within_whole n (levels - 1 - n) c h

within_depth : (scheme : Scheme) (levels n c : ℕ) → n < levels → c < 2 ^ n → c ≡ depth_of scheme c
    → is_within (levels - 1 - n) 0 (depth_of scheme (last_coordinate levels)) c ≡ true
within_depth Quad levels n c low h flat = within_flat (levels - 1 - n) c flat
within_depth Oct levels n c low h flat = within_last levels n c low h

pub whole_has_each_tile : (scheme : Scheme) (levels : ℕ) (t : Tile) → IsTile scheme t → t.level < levels → is_in (whole scheme levels) t ≡ true
whole_has_each_tile scheme levels t tile low =
    let k = levels - 1 - t.level in
    let x = is_within k 0 (last_coordinate levels) t.x in
    let y = is_within k 0 (last_coordinate levels) t.y in
    let z = is_within k 0 (depth_of scheme (last_coordinate levels)) t.z in
    and_from (nat_le t.level (levels - 1)) (x && y && z) (le-leb t.level (levels - 1) (omega arith))
    (and_from (x && y) z (and_from x y (within_last levels t.level t.x low tile.x_fits) (within_last levels t.level t.y low tile.y_fits))
    (within_depth scheme levels t.level t.z low tile.z_fits tile.flat))
