use Rattle.std.proofs.Common.{◌≡◌, drop}
use Rattle.implicit_tileset.specs.FileForms.{is_json_form}
use Rattle.subtree_file.proofs.parts.is_json_form.Given as goal

abbrev pub invariant-loop-byte : goal.invariant-loop-byte
invariant-loop-byte l = is_json_form (drop l.byte-index l.bytes) ≡ is_json_form l.bytes
