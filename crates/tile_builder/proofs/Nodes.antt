-- Places of nodes and of child subtrees, as the code computes them.
use Rattle.std.proofs.Common.{◌≡◌, ℕ, ◌+◌, ◌%◌, ◌^◌, ◌<◌, ◌≤◌, List, [], ◌++◌, map, take, length, get_or, sym, ap, subst, ◌∙◌, arith}
use Rattle.std.specs.List.{All}
use Rattle.std.proofs.lemmas.List.{take_all}
use Rattle.std.proofs.lemmas.List.Elements.{All-same, All-map}
use Rattle.std.proofs.lemmas.Nat.{mod_below}
use Rattle.implicit_tiling.specs.declared.Scheme.{Scheme}
use Rattle.implicit_tiling.specs.declared.Scheme.TheVariants.{Quad, Oct}
use Rattle.implicit_tiling.specs.Limits.{most_subtree_levels}
use Rattle.implicit_tiling.specs.Tile.{branching, index}
use Rattle.implicit_tiling.specs.Scene.{Layout}
use Rattle.implicit_tiling.specs.Availability.{nodes_above, place}
use Rattle.implicit_tileset.specs.Tileset.{most_subtree_levels as levels_limit}
use Rattle.tiling_laws.proofs.Ancestors.{branching_pow_pos}
use Rattle.tiling_laws.proofs.Places.{place_below, within_level}
use Rattle.availability.proofs.Places.{nodes_fit, level_fits}
use Rattle.build_laws.specs.Made.{tile_in, child_place}

pub few_subtree_levels : (scheme : Scheme) (n levels : ℕ) → n ≤ levels → levels ≤ levels_limit scheme → n ≤ most_subtree_levels scheme
few_subtree_levels Quad n levels low few = omega (arith, low, few)
few_subtree_levels Oct n levels low few = omega (arith, low, few)

pub some_nodes : (scheme : Scheme) (l n : ℕ) → n ≡ branching scheme ^ l → 0 < n
some_nodes scheme l n nodes = omega (arith, nodes, branching_pow_pos scheme l)

pub place_is_short : (scheme : Scheme) (l levels above i n : ℕ) → l ≤ levels → levels ≤ levels_limit scheme → above ≡ nodes_above scheme l → n ≡ branching scheme ^ l → above + i % n < 2 ^ 64
place_is_short scheme l levels above i n low few are nodes =
    let fits = few_subtree_levels scheme l levels low few in
    omega (arith, are, nodes, mod_below i n (some_nodes scheme l n nodes), nodes_fit scheme l fits, level_fits scheme l fits)

-- each place is one of the bits
pub places_are_nodes : (layout : Layout) (ws places : List ℕ) (count : ℕ) → 1 ≤ layout.subtree_levels → places ≡ map (λ w. place layout (tile_in layout w)) ws
    → count ≡ nodes_above layout.scheme layout.subtree_levels → All (λ p. p < count) places
places_are_nodes layout ws places count some are nodes =
    let f = λ (w : ℕ). place layout (tile_in layout w) in
    All-same (λ p. p < count) places (map f ws) are
    (All-map (λ p. p < count) f ws (λ i d h. subst (λ n. f (get_or ws i d) < n) (sym nodes) (place_below layout (tile_in layout (get_or ws i d)) some)))

pub places_are_children : (layout : Layout) (ws places : List ℕ) (count : ℕ) → places ≡ map (child_place layout) ws → count ≡ branching layout.scheme ^ layout.subtree_levels
    → All (λ p. p < count) places
places_are_children layout ws places count are nodes =
    All-same (λ p. p < count) places (map (child_place layout) ws) are
    (All-map (λ p. p < count) (child_place layout) ws
    (λ i d h. subst (λ n. child_place layout (get_or ws i d) < n) (sym nodes) (within_level layout.scheme layout.subtree_levels (index layout.scheme (tile_in layout (get_or ws i d))))))

-- what is made for all words
pub all_made : {X : Type 0} (f : ℕ → X) (ws : List ℕ) (i : ℕ) (same made : List X) → same ≡ made → made ≡ map f (take i ws) → length ws ≤ i → same ≡ map f ws
all_made f ws i same made is are end = is ∙ are ∙ ap (map f) (take_all i ws end)

-- what is appended to an emptied list
pub appended_alone : (before made after shown : List ℕ) → shown ≡ after → after ≡ before ++ made → before ≡ [] → shown ≡ made
appended_alone before made after shown same more none = same ∙ more ∙ ap (λ v. v ++ made) none
