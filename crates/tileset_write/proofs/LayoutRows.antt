-- The texts of layouts, computed and compared byte for byte.
use Rattle.std.proofs.Common.{◌≡◌, ℕ, List, [], ◌∷◌, refl, codes}
use Rattle.std.specs.Prelude.{Ok}
use Rattle.std.specs.Str.{is_utf8, chars}
use Rattle.std.specs.Fmt.{digits}
use Rattle.serde_json.proofs.OnLiterals.{serde_json_on_literals}
use Rattle.implicit_tiling.specs.declared.Scheme.TheVariants.{Quad, Oct}
use Rattle.implicit_tiling.specs.Scene.{Layout}
use Rattle.implicit_tileset.specs.Tileset.{layout_of}
use Rattle.tileset_write.specs.LayoutText.{layout_text}

quad : Layout
quad = record { scheme = Quad; subtree_levels = 2; levels = 3; subtree = codes "s.{level}.{x}.{y}.subtree"; contents = codes "c0.{level}.{x}.{y}.glb" ∷ [] }

quad_text : List ℕ
quad_text = codes "{\"asset\":{\"version\":\"1.1\"},\"geometricError\":1,\"root\":{\"boundingVolume\":{\"box\":[0,0,0,1,0,0,0,1,0,0,0,1]},\"content\":{\"uri\":\"c0.{level}.{x}.{y}.glb\"},\"geometricError\":1,\"implicitTiling\":{\"availableLevels\":3,\"subdivisionScheme\":\"QUADTREE\",\"subtreeLevels\":2,\"subtrees\":{\"uri\":\"s.{level}.{x}.{y}.subtree\"}},\"refine\":\"ADD\"}}"

one_content : layout_text quad ≡ quad_text
unfolding digits serde_json_on_literals quad quad_text
one_content = refl

one_content_is_read : layout_of quad_text ≡ Ok quad
unfolding digits is_utf8 chars serde_json_on_literals quad quad_text
one_content_is_read = refl

oct : Layout
oct = record { scheme = Oct; subtree_levels = 7; levels = 21; subtree = codes "{z}"; contents = codes "a" ∷ codes "\"b" ∷ [] }

two_contents : layout_text oct ≡ codes "{\"asset\":{\"version\":\"1.1\"},\"geometricError\":1,\"root\":{\"boundingVolume\":{\"box\":[0,0,0,1,0,0,0,1,0,0,0,1]},\"contents\":[{\"uri\":\"a\"},{\"uri\":\"\\\"b\"}],\"geometricError\":1,\"implicitTiling\":{\"availableLevels\":21,\"subdivisionScheme\":\"OCTREE\",\"subtreeLevels\":7,\"subtrees\":{\"uri\":\"{z}\"}},\"refine\":\"ADD\"}}"
unfolding digits serde_json_on_literals oct
two_contents = refl
