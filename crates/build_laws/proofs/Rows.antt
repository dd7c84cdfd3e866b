-- The files of four given tiles, computed: which roots have one, and the bits in them. The bytes of these files are
-- computed where files are defined (crates/subtree_write/proofs/Rows.antt).
use Rattle.std.proofs.Common.{◌≡◌, ℕ, ◌+◌, ◌*◌, ◌^◌, Bool, true, false, List, [], ◌∷◌, ◌++◌, refl, codes, replicate}
use Rattle.implicit_tiling.specs.declared.Scheme.TheVariants.{Quad}
use Rattle.implicit_tiling.specs.Tile.{Tile, root}
use Rattle.implicit_tiling.specs.Scene.{Layout}
use Rattle.implicit_tiling.specs.Subtree.{Subtree}
use Rattle.tile_occupancy.specs.Occupied.{tiles_of}
use Rattle.build_laws.specs.Made.{made_subtree, made_roots}

-- three levels, two of them in a subtree, one content
unfoldable pub quad : Layout
quad = record { scheme = Quad; subtree_levels = 2; levels = 3; subtree = codes "s.{level}.{x}.{y}.subtree"; contents = codes "c0.{level}.{x}.{y}.glb" ∷ [] }

-- the root, a tile below it, and two of its children, each with its content
unfoldable pub root_word : ℕ
root_word = 2 ^ 64

unfoldable pub inner_word : ℕ
inner_word = 2 ^ 80 + 2 ^ 64 + 2

unfoldable pub first_word : ℕ
first_word = 2 * 2 ^ 80 + 2 ^ 64 + 8

unfoldable pub last_word : ℕ
last_word = 2 * 2 ^ 80 + 2 ^ 64 + 11

unfoldable pub words : List ℕ
words = root_word ∷ inner_word ∷ first_word ∷ last_word ∷ []

unfoldable pub inner : Tile
inner = record { level = 1; x = 0; y = 1; z = 0 }

unfoldable pub first : Tile
first = record { level = 2; x = 0; y = 2; z = 0 }

unfoldable pub last : Tile
last = record { level = 2; x = 1; y = 3; z = 0 }

their_tiles : tiles_of Quad words ≡ root ∷ inner ∷ first ∷ last ∷ []
unfolding words root_word inner_word first_word last_word inner first last
their_tiles = refl

three_files : made_roots quad words ≡ root ∷ first ∷ last ∷ []
unfolding quad words root_word inner_word first_word last_word first last
three_files = refl

-- where there is no tile, the root has a file all the same
one_file : made_roots quad [] ≡ root ∷ []
unfolding quad
one_file = refl

-- the bits of the root's subtree: five nodes, and sixteen child subtrees
two_nodes : List Bool
two_nodes = true ∷ false ∷ false ∷ true ∷ false ∷ []

two_children : List Bool
two_children = replicate 8 false ++ true ∷ false ∷ false ∷ true ∷ replicate 4 false

top : Subtree
top = record { scheme = Quad; levels = 2; cut = 3; root = root; tiles = two_nodes; contents = two_nodes ∷ []; child = two_children }

of_the_root : made_subtree quad words root ≡ top
unfolding quad words root_word inner_word first_word last_word two_nodes two_children top
of_the_root = refl

-- and those of a subtree that is cut below its root
leaf : Tile → Subtree
leaf r = record { scheme = Quad; levels = 2; cut = 3; root = r; tiles = true ∷ replicate 4 false; contents = (true ∷ replicate 4 false) ∷ []; child = replicate 16 false }

of_the_first : made_subtree quad words first ≡ leaf first
unfolding quad words root_word inner_word first_word last_word first leaf
of_the_first = refl

of_the_last : made_subtree quad words last ≡ leaf last
unfolding quad words root_word inner_word first_word last_word last leaf
of_the_last = refl

-- no bit is 1 where there is no tile
empty : Subtree
empty = record { scheme = Quad; levels = 2; cut = 3; root = root; tiles = replicate 5 false; contents = replicate 5 false ∷ []; child = replicate 16 false }

of_nothing : made_subtree quad [] root ≡ empty
unfolding quad empty
of_nothing = refl
