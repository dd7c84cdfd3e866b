-- What a subtree gives a step are words.
use Rattle.std.proofs.Common.{◌≡◌, ℕ, ◌+◌, ◌-◌, ◌*◌, ◌/◌, ◌^◌, ◌<◌, ◌≤◌, Bool, true, false, List, length, get_or, take, map, refl, sym, ap, subst, ◌∙◌, arith}
use Rattle.std.specs.Prelude.{◌&&◌, nat_lt}
use Rattle.std.specs.List.{All}
use Rattle.std.proofs.Math.Pow.{pow_mono}
use Rattle.std.proofs.lemmas.Bool.{and_parts, ltb-true}
use Rattle.std.proofs.lemmas.List.{length-map, length-take}
use Rattle.std.proofs.lemmas.List.Elements.{All-map, All-take, All-same, All-weaker, filter_passes}
use Rattle.implicit_tiling.specs.declared.Scheme.{Scheme}
use Rattle.implicit_tiling.specs.Limits.{most_levels}
use Rattle.implicit_tiling.specs.Tile.{Tile, branching, index}
use Rattle.implicit_tiling.specs.Region.{Region, is_in}
use Rattle.implicit_tiling.specs.Availability.{nodes_above}
use Rattle.implicit_tiling.specs.Subtree.{Subtree, IsSubtree, node_bit, is_kept, has_tile, has_child, contents_mask}
use Rattle.implicit_tiling.specs.Bits.{bit_at}
use Rattle.implicit_tiling.specs.Answer.{most_tiles}
use Rattle.implicit_tiling.specs.Code.{word}
use Rattle.implicit_tiling.specs.Nodes.{node_at, indices, tiles_in, node_word, level_words, is_child_in, children_in, child_word, child_words}
use Rattle.tiling_laws.proofs.TileAt.{tile_at_level}
use Rattle.availability.proofs.Masks.{mask_below}
use Rattle.tile_word.proofs.Tiles.{word_is_word, mask_of_word, level_of_word}
use Rattle.walk_laws.proofs.Decoded.{of_tiles_in}
use Rattle.region_scan.specs.NodeLaws.{IsNodeWord}
use Rattle.region_scan.proofs.NodeWords.{found_words_are_words}
use Rattle.subtree_outcome.specs.Found.{IsTileWord}
use Rattle.subtree_outcome.proofs.Found.{tile_word_is}
use Rattle.region_cursor.specs.Cursor.{Cursor, local_level_of, IsRootAt, FitsSubtree}
use Rattle.region_cursor.specs.Moves.{with_children, counted, room, made_by, made_good}

mask_is_named : (st : Subtree) (l m : ℕ) → contents_mask st l m < 2 ^ length st.contents
mask_is_named st l m =
    let bits : List Bool = map (λ bits. node_bit st bits l m) st.contents in
    mask_below bits (length st.contents) (length-map st.contents (λ bits. node_bit st bits l m))

mask_is_short : (st : Subtree) (l m : ℕ) → IsSubtree st → contents_mask st l m < 2 ^ 16
mask_is_short st l m is =
    let few : length st.contents ≤ 16 = is.few_contents in
    omega (arith, mask_is_named st l m, pow_mono {i = length st.contents} {j = 16} few)

pub root_word_is_root : (scheme : Scheme) (t : Tile) (level : ℕ) → t.level ≡ level → t.level < most_levels scheme → IsRootAt scheme level (word scheme t 0)
root_word_is_root scheme t level at low =
    let short : 0 < 2 ^ 16 = omega arith in
    record { is_word = word_is_word scheme t 0 low short; no_contents = mask_of_word scheme t 0 low short; at_level = level_of_word scheme t 0 low short ∙ at }

pub child_words_are_words : (st : Subtree) (region : Region) → IsSubtree st → All (IsRootAt st.scheme (st.root.level + st.levels)) (child_words st region)
child_words_are_words st region is =
    let passes = filter_passes (is_child_in st region) (indices st st.levels) in
    All-map (IsRootAt st.scheme (st.root.level + st.levels)) (child_word st) (children_in st region)
    (λ k d below. let m = get_or (children_in st region) k d in
    let above = has_tile st (st.levels - 1) (m / branching st.scheme) in
    let bits = and_parts (has_child st m && above) (is_in region (node_at st st.levels m)) (passes k d below) in
    let own = and_parts (has_child st m) above bits.0 in
    let kept = ltb-true (st.root.level + st.levels) st.cut (and_parts (is_kept st st.levels) (bit_at st.child m) own.0).0 in
    let level = tile_at_level st.scheme (st.root.level + st.levels) (index st.scheme st.root * branching st.scheme ^ st.levels + m) in
    root_word_is_root st.scheme (node_at st st.levels m) (st.root.level + st.levels) level (omega (arith, kept, level, is.few_levels_in_all)))

-- the words of a step, and how many tiles were given then
made_by_words : (more : Bool) (words : List ℕ) (c : Cursor) → (made_by more words c).words ≡ words
made_by_words true words c = refl
made_by_words false words c = refl

pub words_of_step : (c : Cursor) (st : Subtree) → FitsSubtree c st → IsSubtree st → All (IsTileWord c.scheme c.levels c.contents) (made_good c st).words
words_of_step c st fits is =
    let l = local_level_of c in
    let found = level_words st c.region l in
    let more = nat_lt (room c) (length found) in
    let words = take (room c) found in
    let nodes = All-take (IsNodeWord st c.region l (2 ^ length st.contents)) (room c) found ((found_words_are_words st c.region is).tiles l) in
    let tiles = All-weaker (IsNodeWord st c.region l (2 ^ length st.contents)) (IsTileWord c.scheme c.levels c.contents)
    (λ w node. tile_word_is st.scheme c.scheme st.cut c.levels (length st.contents) c.contents w fits.same_scheme fits.same_cut fits.contents_named node.is_word node.below_cut node.mask)
    words nodes in
    All-same (IsTileWord c.scheme c.levels c.contents) (made_good c st).words words (made_by_words more words (counted words (with_children more c (child_words st c.region)))) tiles

pub few_of_step : (c : Cursor) (st : Subtree) → c.count ≤ most_tiles → c.count + length (made_good c st).words ≤ most_tiles
few_of_step c st few =
    let found = level_words st c.region (local_level_of c) in
    let more = nat_lt (room c) (length found) in
    let words = take (room c) found in
    omega (arith, few, ap length (made_by_words more words (counted words (with_children more c (child_words st c.region)))), length-take (room c) found)
