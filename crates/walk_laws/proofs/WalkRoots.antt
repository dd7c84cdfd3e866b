-- What is known of each root on a walk, and the words of children.
use Rattle.std.proofs.Common.{◌≡◌, ℕ, true, List, map, sym, ap, ◌∙◌}
use Rattle.std.specs.List.{All}
use Rattle.std.proofs.lemmas.Bool.{and_parts}
use Rattle.std.proofs.lemmas.List.Elements.{filter_passes}
use Rattle.implicit_tiling.specs.declared.Scheme.{Scheme}
use Rattle.implicit_tiling.specs.Tile.{Tile, IsTile, tile_at, tiles_of_level}
use Rattle.implicit_tiling.specs.Region.{Region, is_in}
use Rattle.implicit_tiling.specs.Scene.{Scene}
use Rattle.implicit_tiling.specs.Availability.{is_reached}
use Rattle.implicit_tiling.specs.Answer.{is_on_walk}
use Rattle.implicit_tiling.specs.Subtree.{Subtree}
use Rattle.implicit_tiling.specs.Code.{word}
use Rattle.implicit_tiling.specs.Nodes.{node_at, children_in, child_words}
use Rattle.implicit_tiling.specs.Steps.{root_level, walk_roots}
use Rattle.tiling_laws.proofs.TileAt.{tile_at_is_tile, tile_at_level}
use Rattle.walk_laws.specs.Decoded.{IsDecoded}
use Rattle.walk_laws.specs.Children.{roots_below, IsWalkRoot}
use Rattle.walk_laws.proofs.Lists.{map-map}
use Rattle.walk_laws.proofs.Segments.{of_walk_roots}
use Rattle.walk_laws.proofs.Faults.{walk_is_root}
use Rattle.walk_laws.proofs.Children.{children_are_the_roots_below}

walk_root : (s : Scene) (region : Region) (l : ℕ) (r : Tile) → IsTile s.layout.scheme r → r.level ≡ root_level s.layout l → is_on_walk s region r ≡ true
    → IsWalkRoot s region l r
walk_root s region l r tile level on =
    let parts = and_parts (is_reached s r) (is_in region r) on in
    record { tile = tile; level = level; starts = walk_is_root s region r on; reached = parts.0; within = parts.1 }

pub roots_are_on_the_walk : (s : Scene) (region : Region) (l : ℕ) → All (IsWalkRoot s region l) (walk_roots s region l)
roots_are_on_the_walk s region l =
    let start = root_level s.layout l in
    let passes = filter_passes (is_on_walk s region) (tiles_of_level s.layout.scheme start) in
    let each : All (λ r. is_on_walk s region r ≡ true → IsWalkRoot s region l r) (walk_roots s region l) =
    of_walk_roots (λ r. is_on_walk s region r ≡ true → IsWalkRoot s region l r) s region l
    (λ i h on. walk_root s region l (tile_at s.layout.scheme start i) (tile_at_is_tile s.layout.scheme start i) (tile_at_level s.layout.scheme start i) on) in
    λ k d below. each k d below (passes k d below)

pub child_words_are_root_words : (s : Scene) (region : Region) (st : Subtree) → IsDecoded s st
    → map (λ r. word s.layout.scheme r 0) (roots_below s region st.root) ≡ child_words st region
child_words_are_root_words s region st is =
    let W : Scheme → List ℕ = λ e. map (λ r. word e r 0) (roots_below s region st.root) in
    ap W (sym is.of_layout.same_scheme)
    ∙ ap (map (λ r. word st.scheme r 0)) (children_are_the_roots_below s region st is)
    ∙ map-map (λ r. word st.scheme r 0) (node_at st st.levels) (children_in st region)
