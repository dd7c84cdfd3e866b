-- The words of an answer's tiles make its text.
use Rattle.std.proofs.Common.{◌≡◌, ℕ, zero, suc, ◌+◌, ◌^◌, ◌<◌, ◌≤◌, Bool, true, false, List, [], ◌∷◌, ◌++◌, length, map, refl, ap, ◌∙◌, arith, add-one, lit<}
use Rattle.std.specs.Prelude.{◌&&◌, ◌*◌, if◌then◌else◌}
use Rattle.std.specs.List.{flat_map, All, AllByRecursion}
use Rattle.std.proofs.Math.Nat.{pow-suc, pow-le-pow_right}
use Rattle.std.proofs.lemmas.List.{length-map}
use Rattle.std.proofs.lemmas.List.Elements.{All-filter, All-take, recursion_from_All}
use Rattle.implicit_tiling.specs.declared.Scheme.{Scheme}
use Rattle.implicit_tiling.specs.Limits.{most_levels}
use Rattle.implicit_tiling.specs.Tile.{Tile, all_tiles}
use Rattle.implicit_tiling.specs.Region.{Region, is_in}
use Rattle.implicit_tiling.specs.Scene.{Scene, content_bits_of}
use Rattle.implicit_tiling.specs.Availability.{mask, mask_from, content_bit, subtree_root, place, is_available}
use Rattle.implicit_tiling.specs.Answer.{answer, tiles, first_fault, is_before, most_tiles}
use Rattle.implicit_tiling.specs.Code.{word_mask, tile_word}
use Rattle.implicit_tiling.specs.Text.{tile_line, word_line, end_line}
use Rattle.tiling_laws.proofs.TileAt.{tile_at_is_tile, tile_at_level}
use Rattle.tiling_laws.proofs.Order.{of_all_tiles}
use Rattle.tile_word.specs.Words.{HasWord}
use Rattle.tile_word.proofs.Tiles.{words_have_their_parts}
use Rattle.request_text.specs.Laws.{WordsMakeTheText}

-- a content's bit is at most its worth
worth : (b : Bool) (c : ℕ) → (if b then 2 ^ c else 0) ≤ 2 ^ c
worth true c = omega arith
worth false c = omega arith

bit_below : (s : Scene) (t : Tile) (c : ℕ) (bits : ℕ → Bool) → content_bit s t c bits ≤ 2 ^ c
bit_below s t c bits = worth (bits (place s.layout t)) c

-- the contents from c on make less than their number of places holds
mask_within : (s : Scene) (t : Tile) (c : ℕ) (templates : List (List ℕ)) (bits : List (ℕ → Bool)) → mask_from s t c templates bits + 2 ^ c ≤ 2 ^ (c + length templates)
mask_within s t c [] bits =
    let same : 2 ^ c ≤ 2 ^ (c + zero) = pow-le-pow_right (lit< tt) (omega arith) in omega (arith, same)
mask_within s t c (template ∷ templates) [] =
    let grows : 2 ^ c ≤ 2 ^ (c + suc (length templates)) = pow-le-pow_right (lit< tt) (omega arith) in omega (arith, grows)
mask_within s t c (template ∷ templates) (b ∷ bits) =
    let same : c + 1 + length templates ≡ c + suc (length templates) = omega arith in
    let rest : mask_from s t (c + 1) templates bits + 2 ^ (c + 1) ≤ 2 ^ (c + suc (length templates)) = rw (← same) (mask_within s t (c + 1) templates bits) in
    let twice : 2 ^ (c + 1) ≡ 2 ^ c * 2 = ap (λ n. 2 ^ n) (add-one c) ∙ pow-suc 2 c in
    omega (arith, rest, twice, bit_below s t c b)

mask_fits : (s : Scene) (t : Tile) → length s.layout.contents ≤ 16 → mask s t < 2 ^ 16
mask_fits s t few =
    let within : mask s t + 2 ^ 0 ≤ 2 ^ (0 + length s.layout.contents) = mask_within s t 0 s.layout.contents (content_bits_of (s.outcome (subtree_root s.layout t))) in
    let most : 0 + length s.layout.contents ≤ 16 = omega (arith, few) in
    let small : 2 ^ (0 + length s.layout.contents) ≤ 2 ^ 16 = pow-le-pow_right (lit< tt) most in
    omega (arith, within, small)

-- the line by a tile's word is the tile's line
line_is : (s : Scene) (t : Tile) → HasWord s.layout.scheme t → length s.layout.contents ≤ 16 → word_line s.layout (tile_word s t) ≡ tile_line s.layout t (mask s t)
line_is s t has few =
    let parts = words_have_their_parts s.layout.scheme t (mask s t) has (mask_fits s t few) in
    ap (λ u. tile_line s.layout u (word_mask (tile_word s t))) parts.tile ∙ ap (tile_line s.layout t) parts.mask

lines_are : (s : Scene) (ts : List Tile) → AllByRecursion (HasWord s.layout.scheme) ts → length s.layout.contents ≤ 16
    → flat_map (word_line s.layout) (map (tile_word s) ts) ≡ flat_map (λ t. tile_line s.layout t (mask s t)) ts
lines_are s [] all few = refl
lines_are s (t ∷ ts) all few = ap (λ w. w ++ flat_map (word_line s.layout) (map (tile_word s) ts)) (line_is s t all.0 few) ∙ ap (λ w. tile_line s.layout t (mask s t) ++ w) (lines_are s ts all.1 few)

-- each tile of an answer has a word
pub all_have_words : (scheme : Scheme) (last : ℕ) → last < most_levels scheme → All (HasWord scheme) (all_tiles scheme last)
all_have_words scheme last low = of_all_tiles (HasWord scheme) scheme last (λ level i within. record {
  is_tile = tile_at_is_tile scheme level i;
  within = omega (arith, tile_at_level scheme level i);
})

pub tiles_have_words : (s : Scene) (region : Region) → region.level < most_levels s.layout.scheme → All (HasWord s.layout.scheme) (answer s region).tiles
tiles_have_words s region low =
    All-take (HasWord s.layout.scheme) most_tiles (tiles s region)
    (All-filter (λ t. is_in region t && is_available s t && is_before s.layout.scheme (first_fault s region) t) (HasWord s.layout.scheme) (all_tiles s.layout.scheme region.level)
    (all_have_words s.layout.scheme region.level low))

pub words_make_the_text : WordsMakeTheText
words_make_the_text s region low few =
    ap (λ w. w ++ end_line s.layout.scheme (length (map (tile_word s) (answer s region).tiles)) (answer s region).end)
    (lines_are s (answer s region).tiles (recursion_from_All (HasWord s.layout.scheme) (answer s region).tiles (tiles_have_words s region low)) few)
    ∙ ap (λ n. flat_map (λ t. tile_line s.layout t (mask s t)) (answer s region).tiles ++ end_line s.layout.scheme n (answer s region).end)
    (length-map (answer s region).tiles (tile_word s))
