use Rattle.std.proofs.Common.{◌≡◌, ◌++◌, map, take}
use Rattle.std.specs.Prelude.{string_bytes}
use Rattle.subtree_file.proofs.needed.names_of.Given as goal

abbrev pub invariant-loop-uri : goal.invariant-loop-uri
invariant-loop-uri l = map string_bytes l.names.items ≡ map (λ u. l.folder ++ u.now) (take l.uri-index l.uris)
