use Rattle.std.proofs.Common.{◌≡◌, map}
use Rattle.implicit_tileset.specs.Record.{content_of}
use Rattle.subtree_json.specs.Seen.{content_seen}
use Rattle.implicit_tileset.proofs.EachRead.{read_all, goes_on}
use Rattle.subtree_json.proofs.lists.read_contents.Given as goal

abbrev pub invariant-loop-member : goal.invariant-loop-member
invariant-loop-member l = goes_on content_of (map content_seen l.parts.items) l.member-items l.member-index ≡ read_all content_of l.member-items
