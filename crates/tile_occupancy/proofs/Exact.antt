-- What is generated is one list: the words of the generated tiles in key order.
use Rattle.std.proofs.Common.{◌≡◌, ℕ, ◌-◌, ◌^◌, ◌<◌, ◌≤◌, true, List, [], ◌∷◌, length, get_or, map, refl, sym, ap, subst, ◌∙◌, arith, zero-add}
use Rattle.std.specs.Prelude.{◌↔◌}
use Rattle.std.specs.List.{All, Contains, range_with_len}
use Rattle.std.proofs.lemmas.List.Elements.{All-head, All-tail}
use Rattle.std.proofs.lemmas.List.Folds.{list_any_at, Any-from_list_any}
use Rattle.std.proofs.lemmas.List.FromFn.{length-range_with_len, get_or-range_with_len}
use Rattle.std.proofs.lemmas.List.Kept.{AllPairs-filter}
use Rattle.implicit_tiling.specs.declared.Scheme.{Scheme}
use Rattle.implicit_tiling.specs.Tile.{Tile, IsTile, ancestor, all_tiles, is_key_below}
use Rattle.implicit_tiling.specs.Limits.{most_levels, most_contents}
use Rattle.implicit_tiling.specs.Code.{word_level, word_mask, word_tile}
use Rattle.tiling_laws.proofs.Order.{keys_rise, in_all_tiles}
use Rattle.tiling_laws.proofs.Ancestors.{ancestor_is_tile}
use Rattle.tiling_laws.proofs.Rising.{rising_tiles_are_one, in_filtered}
use Rattle.tile_occupancy.specs.Occupied.{is_same, tiles_of, IsOccupancy}
use Rattle.tile_word.proofs.Tiles.{mask_of_word, word_tile_level}
use Rattle.tile_occupancy.specs.Generated.{point, generated_mask, IsGenerated, is_generated, generated_tiles, generated_word, generated_words, AreGenerated}
use Rattle.tile_occupancy.proofs.Keys.{has_word}
use Rattle.tile_occupancy.proofs.Generated.{mask_below, mask_fits}
use Rattle.tile_occupancy.proofs.Same.{same_is_decided}

-- the test is true of the generated tiles among those of the levels
passes : (scheme : Scheme) (levels points number : ℕ) (t : Tile) → IsGenerated scheme levels points number t → is_generated scheme levels points number t ≡ true
passes scheme levels points number t one =
    let k = one.0 in
    let j = one.1 in
    let p = point scheme levels number k in
    let test = λ (k : ℕ). is_same (ancestor (levels - 1 - t.level) (point scheme levels number k)) t in
    let level : t.level ≡ levels - 1 - j = ap (λ (u : Tile). u.level) one.4 in
    let up : levels - 1 - t.level ≡ j = omega (arith, one.3, level) in
    let here : ancestor (levels - 1 - t.level) p ≡ t = ap (λ n. ancestor n p) up ∙ sym one.4 in
    let low : k < length (range_with_len 0 points) = omega (arith, one.2, length-range_with_len 0 points) in
    list_any_at test (range_with_len 0 points) k 0 low (ap test (get_or-range_with_len 0 points k 0 one.2 ∙ zero-add k) ∙ (same_is_decided (ancestor (levels - 1 - t.level) p) t).1 here)

says : (scheme : Scheme) (levels points number : ℕ) (t : Tile) → 1 ≤ levels → is_generated scheme levels points number t ≡ true
    → IsGenerated scheme levels points number t
says scheme levels points number t some test =
    let any = Any-from_list_any (λ k. is_same (ancestor (levels - 1 - t.level) (point scheme levels number k)) t) (range_with_len 0 points) test in
    let low = any.2 in
    let within : any.0 < points = omega (arith, low, length-range_with_len 0 points) in
    let at : any.1 ≡ any.0 = sym any.3 ∙ get_or-range_with_len 0 points any.0 any.1 within ∙ zero-add any.0 in
    let below : any.1 < points = omega (arith, at, within) in
    (any.1, levels - 1 - t.level, below, omega (arith, some), sym ((same_is_decided (ancestor (levels - 1 - t.level) (point scheme levels number any.1)) t).0 any.4))

-- a generated tile is a tile of the levels
is_tile : (scheme : Scheme) (levels points number : ℕ) (t : Tile) → ((k : ℕ) → IsTile scheme (point scheme levels number k)) → IsGenerated scheme levels points number t
    → IsTile scheme t × (t.level ≤ levels - 1)
is_tile scheme levels points number t tiles one =
    let level : t.level ≡ levels - 1 - one.1 = ap (λ (u : Tile). u.level) one.4 in (
      subst (IsTile scheme) (sym one.4) (ancestor_is_tile scheme one.1 (point scheme levels number one.0) (tiles one.0)),
      omega (arith, level),
    )

pub in_generated_tiles : (scheme : Scheme) (levels points number : ℕ) (t : Tile) → 1 ≤ levels → ((k : ℕ) → IsTile scheme (point scheme levels number k))
    → Contains (generated_tiles scheme levels points number) t ↔ IsGenerated scheme levels points number t
in_generated_tiles scheme levels points number t some tiles =
    let filtered = in_filtered (is_generated scheme levels points number) (all_tiles scheme (levels - 1)) t in (
      λ there. says scheme levels points number t some (filtered.0 there).1,
      λ one. filtered.1 ((in_all_tiles scheme (levels - 1) t).1 (is_tile scheme levels points number t tiles one), passes scheme levels points number t one),
    )

-- the tiles of the words are those tiles
pub tiles_are : (scheme : Scheme) (levels contents points number : ℕ) (ws : List ℕ) → 1 ≤ levels → ((k : ℕ) → IsTile scheme (point scheme levels number k))
    → IsOccupancy scheme levels ws → AreGenerated scheme levels contents points number ws → tiles_of scheme ws ≡ generated_tiles scheme levels points number
tiles_are scheme levels contents points number ws some tiles whole generated =
    rising_tiles_are_one scheme (tiles_of scheme ws) (generated_tiles scheme levels points number) whole.rise
    (AllPairs-filter (λ t u. is_key_below scheme t u ≡ true) (is_generated scheme levels points number) (all_tiles scheme (levels - 1)) (keys_rise scheme (levels - 1)))
    (λ t.
    let mine = generated.tiles t in
    let theirs = in_generated_tiles scheme levels points number t some tiles in
    (λ there. theirs.1 (mine.0 there), λ there. mine.1 (theirs.0 there)))

-- a list is what its elements are made to again
map_back : {X : Type 0} (f : X → ℕ) (g : ℕ → X) (ws : List ℕ) → All (λ w. w ≡ f (g w)) ws → map f (map g ws) ≡ ws
map_back f g [] all = refl
map_back f g (w ∷ ws) all =
    let first : w ≡ f (g w) = All-head (λ v. v ≡ f (g v)) w ws all in
    ap (λ v. v ∷ map f (map g ws)) (sym first) ∙ ap (λ vs. w ∷ vs) (map_back f g ws (All-tail (λ v. v ≡ f (g v)) w ws all))

pub words_are : (scheme : Scheme) (levels contents points number : ℕ) (ws : List ℕ) → 1 ≤ levels → ((k : ℕ) → IsTile scheme (point scheme levels number k))
    → IsOccupancy scheme levels ws → AreGenerated scheme levels contents points number ws → ws ≡ generated_words scheme levels contents points number
words_are scheme levels contents points number ws some tiles whole generated =
    sym (map_back (generated_word scheme contents) (word_tile scheme) ws generated.masks)
    ∙ ap (map (generated_word scheme contents)) (tiles_are scheme levels contents points number ws some tiles whole generated)

-- the mask of a word is that of its level, and has no content past the last
pub masks_are : (scheme : Scheme) (levels contents points number : ℕ) (ws : List ℕ) → contents ≤ most_contents → IsOccupancy scheme levels ws
    → AreGenerated scheme levels contents points number ws → All (λ w. word_mask w ≡ generated_mask contents (word_level w)) ws
masks_are scheme levels contents points number ws few whole generated i d h =
    let w = get_or ws i d in
    let t = word_tile scheme w in
    let low : t.level < most_levels scheme = (has_word scheme w (whole.are_words i d h).is_word).within in
    ap word_mask (generated.masks i d h) ∙ mask_of_word scheme t (generated_mask contents t.level) low (mask_fits contents t.level few)
    ∙ ap (generated_mask contents) (word_tile_level scheme w)

pub masks_below : (scheme : Scheme) (levels contents points number : ℕ) (ws : List ℕ) → contents ≤ most_contents → IsOccupancy scheme levels ws
    → AreGenerated scheme levels contents points number ws → All (λ w. word_mask w < 2 ^ contents) ws
masks_below scheme levels contents points number ws few whole generated i d h =
    let is = masks_are scheme levels contents points number ws few whole generated i d h in
    omega (arith, is, mask_below contents (word_level (get_or ws i d)))
