-- Roots as words: the tiles of the words of child roots are the roots below.
use Rattle.std.proofs.Common.{◌≡◌, ◌≤◌, List, map, get_or, sym, ap, subst, ◌∙◌, arith, lit<}
use Rattle.std.specs.List.{All}
use Rattle.std.proofs.lemmas.List.{map-id}
use Rattle.std.proofs.lemmas.Bool.{and_parts}
use Rattle.std.proofs.lemmas.List.Elements.{All-filter, filter_passes}
use Rattle.implicit_tiling.specs.declared.Scheme.{Scheme}
use Rattle.implicit_tiling.specs.Limits.{most_levels}
use Rattle.implicit_tiling.specs.Tile.{Tile, IsTile}
use Rattle.implicit_tiling.specs.Region.{Region, is_in}
use Rattle.implicit_tiling.specs.Scene.{Scene}
use Rattle.implicit_tiling.specs.Availability.{is_reached}
use Rattle.implicit_tiling.specs.Answer.{End, complete, too_many, fault, is_on_walk}
use Rattle.implicit_tiling.specs.Subtree.{Subtree}
use Rattle.implicit_tiling.specs.Code.{word, word_tile}
use Rattle.implicit_tiling.specs.Nodes.{child_words}
use Rattle.implicit_tiling.specs.Steps.{descendants, ended}
use Rattle.tile_coords.specs.Ends.{end_seen, end_word, EndsAtRoot}
use Rattle.tile_coords.specs.declared.walk_end.WalkEnd.{WalkEnd}
use Rattle.tile_coords.specs.declared.walk_end.WalkEnd.TheVariants.{Partial, Complete, TooMany, Fault}
use Rattle.tile_word.specs.Words.{HasWord}
use Rattle.tile_word.proofs.Tiles.{words_have_their_parts, parts_have_their_word}
use Rattle.walk_laws.specs.Decoded.{IsDecoded}
use Rattle.walk_laws.specs.Children.{roots_below}
use Rattle.walk_laws.proofs.Lists.{map_same, map-map}
use Rattle.walk_laws.proofs.Runs.{below_is_tile, of_descendants}
use Rattle.walk_laws.proofs.Frontiers.{reached_level}
use Rattle.walk_laws.proofs.WalkRoots.{child_words_are_root_words}

-- a tile is that of its word
pub tile_of_word : (scheme : Scheme) (t : Tile) → HasWord scheme t → word_tile scheme (word scheme t 0) ≡ t
tile_of_word scheme t has = (words_have_their_parts scheme t 0 has (lit< tt)).tile

pub roots_have_words : (s : Scene) (region : Region) (r : Tile) → s.layout.levels ≤ most_levels s.layout.scheme → All (HasWord s.layout.scheme) (roots_below s region r)
roots_have_words s region r few =
    let scheme = s.layout.scheme in
    let all = descendants scheme s.layout.subtree_levels r in
    let passes = filter_passes (is_on_walk s region) all in
    let tiles : All (IsTile scheme) (roots_below s region r) = All-filter (is_on_walk s region) (IsTile scheme) all
    (of_descendants (IsTile scheme) scheme s.layout.subtree_levels r (λ j h. below_is_tile scheme s.layout.subtree_levels r j)) in
    λ k d low. let t = get_or (roots_below s region r) k d in
    let level = reached_level s t (and_parts (is_reached s t) (is_in region t) (passes k d low)).0 in
    record { is_tile = tiles k d low; within = omega (arith, level, few) }

pub tiles_of_words : (scheme : Scheme) (ts : List Tile) → All (HasWord scheme) ts → map (word_tile scheme) (map (λ t. word scheme t 0) ts) ≡ ts
tiles_of_words scheme ts has =
    map-map (word_tile scheme) (λ t. word scheme t 0) ts
    ∙ map_same (λ t. word_tile scheme (word scheme t 0)) (λ t. t) ts (λ k d low. tile_of_word scheme (get_or ts k d) (has k d low))
    ∙ map-id ts

pub child_tiles : (s : Scene) (region : Region) (st : Subtree) → IsDecoded s st → map (word_tile s.layout.scheme) (child_words st region) ≡ roots_below s region st.root
child_tiles s region st is =
    let few : s.layout.levels ≤ most_levels s.layout.scheme =
    let P : Scheme → Type 0 = λ e. s.layout.levels ≤ most_levels e in subst P is.of_layout.same_scheme (omega (arith, is.of_layout.same_cut, is.within_limits.few_levels_in_all)) in
    ap (map (word_tile s.layout.scheme)) (sym (child_words_are_root_words s region st is))
    ∙ tiles_of_words s.layout.scheme (roots_below s region st.root) (roots_have_words s region st.root few)
