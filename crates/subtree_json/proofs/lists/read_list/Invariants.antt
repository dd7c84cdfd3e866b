use Rattle.std.proofs.Common.{◌≡◌}
use Rattle.implicit_tileset.proofs.EachRead.{read_all, goes_on}
use Rattle.subtree_json.proofs.lists.read_list.Given as goal

abbrev pub invariant-loop-member : goal.invariant-loop-member
invariant-loop-member g l = goes_on g.T.ListedPart.stated l.parts.items l.member-items l.member-index ≡ read_all g.T.ListedPart.stated l.member-items
