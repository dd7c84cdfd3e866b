use Rattle.std.proofs.Common.{◌≡◌, ◌∷◌, []}
use Rattle.implicit_tileset.specs.SubtreeFile.{for_nodes}
use Rattle.subtree_file.proofs.Contents.{goes_on}
use Rattle.subtree_file.proofs.used.used_of.Given as goal

abbrev pub invariant-loop-part : goal.invariant-loop-part
invariant-loop-part l = goes_on (for_nodes l.layout) l.used.items l.part-items l.part-index ≡ goes_on (for_nodes l.layout) (for_nodes l.layout l.parts.tiles ∷ []) l.part-items 0
