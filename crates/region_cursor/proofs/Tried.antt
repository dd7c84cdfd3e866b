-- Plans of the regions that are tried.
use Rattle.std.proofs.Common.{◌≡◌, ℕ, ◌^◌, Bool, true, false, List, [], ◌∷◌, sym, ap, ◌∙◌}
use Rattle.std.specs.Prelude.{nat_lt, nat_le, slice_index, Result, Ok}
use Rattle.implicit_tiling.specs.declared.Scheme.{Scheme}
use Rattle.implicit_tiling.specs.declared.Scheme.TheVariants.{Quad}
use Rattle.implicit_tiling.specs.Checks.{refuse}
use Rattle.implicit_tiling.specs.Tile.{depth_of}
use Rattle.implicit_tiling.specs.Region.{Region, some_axis, region_of}
use Rattle.implicit_tiling.specs.Scene.{Layout}
use Rattle.walk_laws.specs.Plans.{FitsLayout}

not_refused : (n : ℕ) (test : Bool) (rest : Result Region ℕ) (r : Region) → refuse n test rest ≡ Ok r → rest ≡ Ok r
not_refused n true rest r is = cc
not_refused n false rest r is = is

-- a region that is accepted is that of its own numbers
region_is : (levels level : ℕ) (lo hi : List ℕ) (r : Region) → region_of levels level lo hi ≡ Ok r → record { level = level; lo = lo; hi = hi } ≡ r
region_is levels level lo hi r is =
    let made : Region = record { level = level; lo = lo; hi = hi } in
    let two = refuse 2 (some_axis (λ axis. nat_lt (slice_index hi axis) (slice_index lo axis))) (refuse 3 (some_axis (λ axis. nat_le (2 ^ level) (slice_index hi axis))) (Ok made)) in
    let three : Result Region ℕ = refuse 3 (some_axis (λ axis. nat_le (2 ^ level) (slice_index hi axis))) (Ok made) in
    let a = not_refused 1 (nat_le levels level) two r is in
    let b = not_refused 2 (some_axis (λ axis. nat_lt (slice_index hi axis) (slice_index lo axis))) three r a in
    let c = not_refused 3 (some_axis (λ axis. nat_le (2 ^ level) (slice_index hi axis))) (Ok made) r b in
    cc

pub plan_fits : (layout : Layout) (levels level most : ℕ) (r : Region) → layout.scheme ≡ Quad → levels ≡ layout.levels
    → region_of levels level (0 ∷ 0 ∷ 0 ∷ []) (most ∷ most ∷ 0 ∷ []) ≡ Ok r → FitsLayout layout (record { scheme = Quad; region = r })
plan_fits layout levels level most r scheme same is =
    let made = region_is levels level (0 ∷ 0 ∷ 0 ∷ []) (most ∷ most ∷ 0 ∷ []) r is in
    let flat : (z : ℕ) → z ≡ 0 → z ≡ depth_of layout.scheme z = λ z none. none ∙ sym (ap (λ (e : Scheme). depth_of e z) scheme) in
    record {
      same_scheme = sym scheme;
      flat_lo = flat (slice_index r.lo 2) (sym (ap (λ (v : Region). slice_index v.lo 2) made));
      flat_hi = flat (slice_index r.hi 2) (sym (ap (λ (v : Region). slice_index v.hi 2) made));
      accepted =
          ap (λ n. region_of n r.level r.lo r.hi) (sym same)
          ∙ sym (ap (λ (v : Region). region_of levels v.level v.lo v.hi) made)
          ∙ is;
    }
