use Rattle.std.proofs.Common.{◌≡◌}
use Rattle.implicit_tileset.specs.BufferFiles.{uris_below}
use Rattle.subtree_file.specs.Needed.{shown}
use Rattle.subtree_file.proofs.needed.used_uris.Given as goal

abbrev pub invariant-loop-number : goal.invariant-loop-number
invariant-loop-number l = shown l.uris.items ≡ uris_below l.parts l.used l.number
