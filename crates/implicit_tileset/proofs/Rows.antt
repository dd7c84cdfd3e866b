-- The definitions, computed on the bytes of a small tileset.
use Rattle.std.proofs.Common.{◌≡◌, ℕ, List, [], ◌∷◌, ◌++◌, refl, codes, replicate}
use Rattle.std.specs.Prelude.{Result, Ok, Err}
use Rattle.std.specs.Str.{is_utf8, chars}
use Rattle.std.specs.Fmt.{digits}
use Rattle.serde_json.proofs.OnLiterals.{serde_json_on_literals}
use Rattle.implicit_tiling.specs.Files.{Files}
use Rattle.implicit_tiling.specs.Scene.{Layout}
use Rattle.implicit_tiling.specs.Request.{line_of, plan_of_line}
use Rattle.implicit_tiling.specs.Text.{line, text_of}
use Rattle.implicit_tileset.specs.Scene.{scene_of, layout_in}

tileset : List ℕ
tileset = codes "{\"asset\":{\"version\":\"1.1\"},\"geometricError\":100,\"root\":{\"boundingVolume\":{\"box\":[0,0,0,7,0,0,0,7,0,0,0,7]},\"geometricError\":50,\"refine\":\"REPLACE\",\"content\":{\"uri\":\"c/{level}/{x}/{y}.glb\"},\"implicitTiling\":{\"subdivisionScheme\":\"QUADTREE\",\"subtreeLevels\":2,\"availableLevels\":2,\"subtrees\":{\"uri\":\"s/{level}/{x}/{y}.subtree\"}}}}"

subtree : List ℕ
subtree = codes "subt" ++ (1 ∷ 0 ∷ 0 ∷ 0 ∷ 120 ∷ replicate 15 0) ++ codes "{\"childSubtreeAvailability\":{\"constant\":0},\"contentAvailability\":[{\"constant\":1}],\"tileAvailability\":{\"constant\":1}}    "

files : Files
files = (codes "tileset.json", tileset) ∷ (codes "s/0/0/0.subtree", subtree) ∷ []

text : Result Layout ℕ → List ℕ → List ℕ
text (Ok layout) request = text_of (scene_of files layout) (plan_of_line layout.scheme layout.levels (line_of request))
text (Err n) request = n ∷ []

whole_box : text (layout_in files) (codes "1 0,0 1,1") ≡
    line (codes "0" ∷ codes "0" ∷ codes "0" ∷ codes "c/0/0/0.glb" ∷ []) ++ (line (codes "1" ∷ codes "0" ∷ codes "0" ∷ codes "c/1/0/0.glb" ∷ [])
    ++ (line (codes "1" ∷ codes "1" ∷ codes "0" ∷ codes "c/1/1/0.glb" ∷ []) ++ (line (codes "1" ∷ codes "0" ∷ codes "1" ∷ codes "c/1/0/1.glb" ∷ [])
    ++ (line (codes "1" ∷ codes "1" ∷ codes "1" ∷ codes "c/1/1/1.glb" ∷ []) ++ line (codes "end" ∷ codes "complete" ∷ codes "5" ∷ [])))))
unfolding digits is_utf8 chars serde_json_on_literals tileset subtree files text
whole_box = refl
