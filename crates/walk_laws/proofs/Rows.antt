-- The premises of the laws, met by a small scene.
use Rattle.std.proofs.Common.{◌≡◌, true, false, [], ◌∷◌, length, replicate, refl, lit≤, lit<}
use Rattle.std.proofs.lemmas.List.Elements.{All-nil, All-cons}
use Rattle.implicit_tiling.specs.declared.Scheme.TheVariants.{Quad}
use Rattle.implicit_tiling.specs.Tile.{root}
use Rattle.implicit_tiling.specs.Region.{Region}
use Rattle.implicit_tiling.specs.Scene.{Scene, good}
use Rattle.implicit_tiling.specs.Subtree.{Subtree, node_count, bits_of}
use Rattle.walk_laws.specs.Decoded.{IsDecoded}
use Rattle.walk_laws.specs.Regions.{IsRegion}
use Rattle.walk_laws.proofs.Regions.{accepted_is_a_region}

-- two levels in one subtree, with one content
small : Subtree
small = record {
  scheme = Quad;
  levels = 2;
  cut = 4;
  root = root;
  tiles = true ∷ true ∷ false ∷ true ∷ false ∷ [];
  contents = (true ∷ false ∷ false ∷ true ∷ false ∷ []) ∷ [];
  child = replicate 16 true;
}

scene_of_small : Scene
scene_of_small = record {
  layout = record { scheme = Quad; subtree_levels = 2; levels = 4; subtree = []; contents = [] ∷ [] };
  outcome = λ r. good (bits_of small);
}

small_is_decoded : IsDecoded scene_of_small small
unfolding small scene_of_small
small_is_decoded = record {
  within_limits = record {
    some_levels = lit≤ tt;
    few_levels = lit≤ tt;
    few_levels_in_all = lit≤ tt;
    root_below_cut = lit< tt;
    root_is_tile = record { x_fits = lit< tt; y_fits = lit< tt; z_fits = lit< tt; flat = refl };
    few_contents = lit≤ tt;
    tile_bits = refl;
    content_bits = All-cons (λ bits. length bits ≡ node_count Quad 2) (true ∷ false ∷ false ∷ true ∷ false ∷ []) [] refl (All-nil (λ bits. length bits ≡ node_count Quad 2));
    child_bits = refl;
  };
  of_layout = record { same_scheme = refl; same_levels = refl; same_cut = refl; contents_named = lit≤ tt; root_at_start = refl };
  no_orphan = refl;
  same_bits = refl;
  reached = refl;
}

box : Region
box = record { level = 3; lo = 0 ∷ 0 ∷ 0 ∷ []; hi = 7 ∷ 5 ∷ 0 ∷ [] }

box_is_a_region : IsRegion box
unfolding box
box_is_a_region = (accepted_is_a_region 4 3 (0 ∷ 0 ∷ 0 ∷ []) (7 ∷ 5 ∷ 0 ∷ []) box refl).0
