use Rattle.std.proofs.Common.{◌≡◌, drop}
use Rattle.subtree_file.specs.Buffers.{bytes_under}
use Rattle.subtree_file.specs.Needed.{shown}
use Rattle.subtree_file.proofs.sources.bytes_under.Given as goal

abbrev pub invariant-loop-index : goal.invariant-loop-index
invariant-loop-index l = bytes_under (shown (drop l.index l.uris)) (drop l.index l.files) l.uri ≡ bytes_under (shown l.uris) l.files l.uri
