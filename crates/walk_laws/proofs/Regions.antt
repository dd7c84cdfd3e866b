-- Regions that are accepted, and the root on the walk of a region.
use Rattle.std.proofs.Common.{◌≡◌, ℕ, zero, suc, ◌-◌, ◌*◌, ◌/◌, ◌^◌, ◌<◌, ◌≤◌, Bool, true, false, cond, List, [], ◌∷◌, Ok, refl, ap, subst, ◌∙◌, arith}
use Rattle.std.specs.Prelude.{◌&&◌, ◌||◌, nat_lt, nat_le, slice_index, filter}
use Rattle.std.proofs.lemmas.Nat.{div_below}
use Rattle.std.proofs.lemmas.Bool.{and_from, or_parts, ltb-false, leb-false, le-leb}
use Rattle.implicit_tiling.specs.declared.Scheme.{Scheme}
use Rattle.implicit_tiling.specs.declared.Scheme.TheVariants.{Quad, Oct}
use Rattle.implicit_tiling.specs.Checks.{refuse}
use Rattle.implicit_tiling.proofs.Tables.{refuse-good}
use Rattle.implicit_tiling.specs.Tile.{root, tiles_of_level}
use Rattle.implicit_tiling.specs.Region.{Region, is_in, is_within, some_axis, region_of}
use Rattle.implicit_tiling.specs.Scene.{Scene}
use Rattle.implicit_tiling.specs.Availability.{is_reached}
use Rattle.implicit_tiling.specs.Answer.{is_on_walk}
use Rattle.implicit_tiling.specs.Steps.{root_level, walk_roots}
use Rattle.tiling_laws.proofs.Available.{root_is_reached}
use Rattle.walk_laws.specs.Regions.{IsRegion}

-- a test that no axis passes
axis_fails : (test : ℕ → Bool) → some_axis test ≡ false → (axis : ℕ) → axis < 3 → test axis ≡ false
axis_fails test none zero low = (or_parts (test 0) (test 1) (or_parts (test 0 || test 1) (test 2) none).0).0
axis_fails test none (suc zero) low = (or_parts (test 0) (test 1) (or_parts (test 0 || test 1) (test 2) none).0).1
axis_fails test none (suc (suc zero)) low = (or_parts (test 0 || test 1) (test 2) none).1
axis_fails test none (suc (suc (suc axis))) low = absurd (omega arith)

pub accepted_is_a_region : (levels level : ℕ) (lo hi : List ℕ) (region : Region) → region_of levels level lo hi ≡ Ok region → IsRegion region × (region.level < levels)
accepted_is_a_region levels level lo hi region h =
    let out_of_order : ℕ → Bool = λ axis. nat_lt (slice_index hi axis) (slice_index lo axis) in
    let too_high : ℕ → Bool = λ axis. nat_le (2 ^ level) (slice_index hi axis) in
    let made : Region = record { level = level; lo = lo; hi = hi } in
    let first = refuse-good 1 (nat_le levels level) (refuse 2 (some_axis out_of_order) (refuse 3 (some_axis too_high) (Ok made))) region h in
    let second = refuse-good 2 (some_axis out_of_order) (refuse 3 (some_axis too_high) (Ok made)) region first.1 in
    let third = refuse-good 3 (some_axis too_high) (Ok made) region second.1 in
    let same : made ≡ region = cc (third.1) in
    let is : IsRegion made × (made.level < levels) = (
      record {
        ordered = λ axis low. ltb-false (slice_index hi axis) (slice_index lo axis) (axis_fails out_of_order second.0 axis low);
        fits = λ axis low. leb-false (2 ^ level) (slice_index hi axis) (axis_fails too_high third.0 axis low);
      },
      leb-false levels level first.0,
    ) in
    let P : Region → Type 0 = λ r. IsRegion r × (r.level < levels) in
    subst P same is

-- the root is in each region
root_within : (k lo hi : ℕ) → lo < 2 ^ k → is_within k lo hi 0 ≡ true
root_within k lo hi h =
    let whole : lo < 1 * 2 ^ k = omega arith in
    let none = div_below lo (2 ^ k) 1 (omega arith) whole in
    and_from (nat_le (lo / 2 ^ k) 0) (nat_le 0 (hi / 2 ^ k)) (le-leb (lo / 2 ^ k) 0 (omega arith)) (le-leb 0 (hi / 2 ^ k) (omega arith))

pub root_in_region : (region : Region) → IsRegion region → is_in region root ≡ true
root_in_region region is =
    let within : (axis : ℕ) → axis < 3 → is_within (region.level - 0) (slice_index region.lo axis) (slice_index region.hi axis) 0 ≡ true =
    λ axis low. let all : region.level - 0 ≡ region.level = omega arith in
    ap (λ k. is_within k (slice_index region.lo axis) (slice_index region.hi axis) 0) all
    ∙ root_within region.level (slice_index region.lo axis) (slice_index region.hi axis) (omega (arith, is.ordered axis low, is.fits axis low)) in
    let test : ℕ → Bool = λ axis. is_within (region.level - 0) (slice_index region.lo axis) (slice_index region.hi axis) 0 in
    and_from (nat_le 0 region.level) (test 0 && test 1 && test 2) (le-leb 0 region.level (omega arith))
    (and_from (test 0 && test 1) (test 2) (and_from (test 0) (test 1) (within 0 (omega arith)) (within 1 (omega arith))) (within 2 (omega arith)))

level_zero : (scheme : Scheme) → tiles_of_level scheme 0 ≡ root ∷ []
level_zero Quad = refl
level_zero Oct = refl

pub roots_begin_at_the_root : (s : Scene) (region : Region) → 1 ≤ s.layout.levels → IsRegion region → walk_roots s region 0 ≡ root ∷ []
roots_begin_at_the_root s region some is =
    let on = is_on_walk s region in
    let first : root_level s.layout 0 ≡ 0 = omega arith in
    let there = and_from (is_reached s root) (is_in region root) ((root_is_reached s).1 some) (root_in_region region is) in
    ap (λ l. filter on (tiles_of_level s.layout.scheme l)) first
    ∙ ap (filter on) (level_zero s.layout.scheme)
    ∙ ap (λ b. cond b (root ∷ []) []) there
