-- For proofs and inner functions: the places of the tiles of some words, and the bits of their contents (OGC
-- 22-025r4, implicit tiling: content availability).
use Rattle.std.specs.Prelude.{ℕ, Bool, List, length, map, filter}
use Rattle.std.specs.List.{range_with_len}
use Rattle.implicit_tiling.specs.Availability.{place}
use Rattle.implicit_tiling.specs.Scene.{Layout}
use Rattle.build_laws.specs.Made.{tile_in, has_content, node_bits}

-- the places among the nodes of their subtrees
abbrev pub node_places : Layout → List ℕ → List ℕ
node_places layout words = map (λ w. place layout (tile_in layout w)) words

abbrev pub content_bits : Layout → List ℕ → List (List Bool)
content_bits layout words = map
    (λ c. node_bits layout (filter (has_content c) words)) (range_with_len 0 (length layout.contents))
