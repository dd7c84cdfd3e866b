-- The canonical files of two subtrees, computed and compared byte for byte.
use Rattle.std.proofs.Common.{◌≡◌, ℕ, Bool, true, false, List, [], ◌∷◌, ◌++◌, refl, codes, replicate}
use Rattle.std.specs.Fmt.{digits}
use Rattle.serde_json.proofs.OnLiterals.{serde_json_on_literals}
use Rattle.implicit_tiling.specs.declared.Scheme.TheVariants.{Quad}
use Rattle.implicit_tiling.specs.Subtree.{Subtree}
use Rattle.subtree_write.specs.Canonical.{canonical}

-- the header of a file whose parts have so many bytes
header : ℕ → ℕ → ℕ → List ℕ
header low high binary = codes "subt" ++ (1 ∷ 0 ∷ 0 ∷ 0 ∷ low ∷ high ∷ []) ++ replicate 6 0 ++ (binary ∷ replicate 7 0)

-- five nodes: the root and the third child
two_nodes : List Bool
two_nodes = true ∷ false ∷ false ∷ true ∷ false ∷ []

-- sixteen child subtrees, of which the ninth and the twelfth are there
two_children : List Bool
two_children = replicate 8 false ++ true ∷ false ∷ false ∷ true ∷ replicate 4 false

top : Subtree
top = record { scheme = Quad; levels = 2; cut = 3; root = record { level = 0; x = 0; y = 0; z = 0 }; tiles = two_nodes; contents = two_nodes ∷ []; child = two_children }

top_json : List ℕ
top_json = codes "{\"bufferViews\":[{\"buffer\":0,\"byteLength\":1,\"byteOffset\":0},{\"buffer\":0,\"byteLength\":1,\"byteOffset\":8},{\"buffer\":0,\"byteLength\":2,\"byteOffset\":16}],\"buffers\":[{\"byteLength\":24}],\"childSubtreeAvailability\":{\"availableCount\":2,\"bitstream\":2},\"contentAvailability\":[{\"availableCount\":2,\"bitstream\":1}],\"tileAvailability\":{\"availableCount\":2,\"bitstream\":0}}"

three_bitstreams : canonical top ≡ header 96 1 24 ++ top_json ++ (9 ∷ replicate 7 0) ++ (9 ∷ replicate 7 0) ++ (0 ∷ 9 ∷ replicate 6 0)
unfolding digits serde_json_on_literals header two_nodes two_children top top_json
three_bitstreams = refl

-- the root alone, at the last level in all
leaf : Subtree
leaf = record { scheme = Quad; levels = 2; cut = 3; root = record { level = 2; x = 0; y = 2; z = 0 }; tiles = true ∷ replicate 4 false; contents = (true ∷ replicate 4 false) ∷ []; child = replicate 16 false }

leaf_json : List ℕ
leaf_json = codes "{\"bufferViews\":[{\"buffer\":0,\"byteLength\":1,\"byteOffset\":0},{\"buffer\":0,\"byteLength\":1,\"byteOffset\":8}],\"buffers\":[{\"byteLength\":16}],\"childSubtreeAvailability\":{\"constant\":0},\"contentAvailability\":[{\"availableCount\":1,\"bitstream\":1}],\"tileAvailability\":{\"availableCount\":1,\"bitstream\":0}}"

constant_child : canonical leaf ≡ header 32 1 16 ++ leaf_json ++ (1 ∷ replicate 7 0) ++ (1 ∷ replicate 7 0)
unfolding digits serde_json_on_literals header leaf leaf_json
constant_child = refl

-- no bitstream and no content: neither buffers nor contents are named, and three spaces fill up the text of 77 bytes
full : Subtree
full = record { scheme = Quad; levels = 1; cut = 3; root = record { level = 0; x = 0; y = 0; z = 0 }; tiles = true ∷ []; contents = []; child = replicate 4 true }

constants_alone : canonical full ≡ header 80 0 0 ++ codes "{\"childSubtreeAvailability\":{\"constant\":1},\"tileAvailability\":{\"constant\":1}}   "
unfolding digits serde_json_on_literals header full
constants_alone = refl
