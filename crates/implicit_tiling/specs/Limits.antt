-- The limits of what is read (this project's own).
use Rattle.std.specs.Prelude.{ℕ}
use Rattle.implicit_tiling.specs.declared.Scheme.{Scheme}
use Rattle.implicit_tiling.specs.declared.Scheme.TheVariants.{Quad, Oct}

-- the most levels in all, and in a subtree
abbrev pub most_levels : Scheme → ℕ
most_levels Quad = 32
most_levels Oct = 21

abbrev pub most_subtree_levels : Scheme → ℕ
most_subtree_levels Quad = 10
most_subtree_levels Oct = 7

-- the most contents of a tile
abbrev pub most_contents : ℕ
most_contents = 16

-- the most bytes of a file
abbrev pub most_file_bytes : ℕ
most_file_bytes = 16777216

-- the number of the last row of the table of faults of `tileset.json`, and of that of a subtree file
abbrev pub most_layout_fault : ℕ
most_layout_fault = 12

abbrev pub most_subtree_fault : ℕ
most_subtree_fault = 20
