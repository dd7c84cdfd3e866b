-- The answer for the region of all tiles, where files hold some tiles.
use Rattle.std.proofs.Common.{◌≡◌, ℕ, ◌-◌, Bool, true, false, List, length, get_or, ap, ◌∙◌, arith, refl}
use Rattle.std.specs.Prelude.{◌&&◌, nat_lt, take, filter, Option, None, option_map}
use Rattle.std.specs.List.{Contains}
use Rattle.std.proofs.lemmas.Bool.{and_parts, and_from}
use Rattle.std.proofs.lemmas.List.Elements.{Contains-get_or}
use Rattle.std.proofs.lemmas.List.Kept.{AllPairs-filter}
use Rattle.implicit_tiling.specs.Tile.{Tile, is_key_below, all_tiles}
use Rattle.implicit_tiling.specs.Region.{Region, is_in}
use Rattle.implicit_tiling.specs.Scene.{Scene}
use Rattle.implicit_tiling.specs.Availability.{is_available, is_reached}
use Rattle.implicit_tiling.specs.Answer.{End, is_on_walk, fault_at, first, first_fault, is_before, tiles, most_tiles, end_from, end_of}
use Rattle.tiling_laws.proofs.Order.{keys_rise, in_all_tiles}
use Rattle.tiling_laws.proofs.Rising.{in_filtered, rising_tiles_are_one}
use Rattle.walk_laws.specs.Regions.{whole}
use Rattle.walk_laws.proofs.Lists.{filter_map_none}
use Rattle.walk_laws.proofs.Whole.{whole_has_each_tile}
use Rattle.tile_occupancy.specs.Occupied.{tiles_of, IsOccupancy}
use Rattle.tile_occupancy.proofs.Keys.{places}
use Rattle.build_laws.specs.Holds.{HoldsTiles}
use Rattle.build_laws.specs.Laws.{end_after, AllTilesAreTheAnswer}
use Rattle.build_laws.proofs.Under.{is_tile, is_low}

-- no root on the walk has a fault
no_first_fault : (s : Scene) (words : List ℕ) (region : Region) → HoldsTiles s words → first_fault s region ≡ None
no_first_fault s words region holds =
    let on = is_on_walk s region in
    let all = all_tiles s.layout.scheme region.level in
    ap first (filter_map_none (fault_at s) (filter on all)
    (λ k d low.
    let r = get_or (filter on all) k d in
    let is = (in_filtered on all r).0 (Contains-get_or (filter on all) k d low) in
    let tile = ((in_all_tiles s.layout.scheme region.level r).0 is.0).0 in
    let reached = (and_parts (is_reached s r) (is_in region r) is.1).0 in
    ap {B = Option (Tile × ℕ)} (λ o. option_map (λ n. (r, n)) o) (holds.no_faults r tile reached)))

-- the tiles of the answer without a fault are the available tiles of the region
abbrev is_answered : Scene → Region → Tile → Bool
is_answered s region t = is_in region t && is_available s t && true

tiles_are : (s : Scene) (region : Region) → first_fault s region ≡ None → tiles s region ≡ filter (is_answered s region) (all_tiles s.layout.scheme region.level)
tiles_are s region none =
    ap (λ (found : Option (Tile × ℕ)). filter (λ t. is_in region t && is_available s t && is_before s.layout.scheme found t) (all_tiles s.layout.scheme region.level)) none

-- for the region of all tiles these are the given ones
answered_says : (s : Scene) (words : List ℕ) (region : Region) (t : Tile) → HoldsTiles s words → Contains (filter (is_answered s region) (all_tiles s.layout.scheme region.level)) t
    → Contains (tiles_of s.layout.scheme words) t
answered_says s words region t holds there =
    let is = (in_filtered (is_answered s region) (all_tiles s.layout.scheme region.level) t).0 there in
    let tile = ((in_all_tiles s.layout.scheme region.level t).0 is.0).0 in
    let parts = and_parts (is_in region t && is_available s t) true is.1 in
    (holds.tiles t tile).0 (and_parts (is_in region t) (is_available s t) parts.0).1

answered_from : (s : Scene) (words : List ℕ) (t : Tile) → IsOccupancy s.layout.scheme s.layout.levels words → HoldsTiles s words → Contains (tiles_of s.layout.scheme words) t
    → Contains (filter (is_answered s (whole s.layout.scheme s.layout.levels)) (all_tiles s.layout.scheme (s.layout.levels - 1))) t
answered_from s words t occupancy holds there =
    let scheme = s.layout.scheme in
    let region = whole scheme s.layout.levels in
    let tile = is_tile scheme words t there in
    let low = is_low scheme s.layout.levels words t occupancy.are_words there in
    let passes = and_from (is_in region t && is_available s t) true
    (and_from (is_in region t) (is_available s t) (whole_has_each_tile scheme s.layout.levels t tile low) ((holds.tiles t tile).1 there)) refl in
    (in_filtered (is_answered s region) (all_tiles scheme (s.layout.levels - 1)) t).1 ((in_all_tiles scheme (s.layout.levels - 1) t).1 (tile, omega (arith, low)), passes)

all_tiles_are : (s : Scene) (words : List ℕ) → IsOccupancy s.layout.scheme s.layout.levels words → HoldsTiles s words
    → tiles s (whole s.layout.scheme s.layout.levels) ≡ tiles_of s.layout.scheme words
all_tiles_are s words occupancy holds =
    let scheme = s.layout.scheme in
    let region = whole scheme s.layout.levels in
    let all = all_tiles scheme (s.layout.levels - 1) in
    tiles_are s region (no_first_fault s words region holds)
    ∙ rising_tiles_are_one scheme (filter (is_answered s region) all) (tiles_of scheme words)
    (AllPairs-filter (λ t u. is_key_below scheme t u ≡ true) (is_answered s region) all (keys_rise scheme (s.layout.levels - 1))) occupancy.rise
    (λ t. (answered_says s words region t holds, answered_from s words t occupancy holds))

end_is : (b : Bool) → end_from b None ≡ end_after b
end_is true = refl
end_is false = refl

pub all_tiles_are_the_answer : AllTilesAreTheAnswer
all_tiles_are_the_answer s words occupancy holds =
    let region = whole s.layout.scheme s.layout.levels in
    let same = all_tiles_are s words occupancy holds in
    let none = no_first_fault s words region holds in
    let given = tiles_of s.layout.scheme words in
    ap (λ (ts : List Tile). record { tiles = take most_tiles ts; end = end_of (length ts) (first_fault s region) }) same
    ∙ ap (λ (found : Option (Tile × ℕ)). record { tiles = take most_tiles given; end = end_of (length given) found }) none
    ∙ ap (λ (e : End). record { tiles = take most_tiles given; end = e }) (end_is (nat_lt most_tiles (length given)) ∙ ap (λ n. end_after (nat_lt most_tiles n)) (places s.layout.scheme words))
