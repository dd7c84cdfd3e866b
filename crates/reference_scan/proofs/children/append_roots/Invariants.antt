use Rattle.std.proofs.Common.{◌≡◌, ◌++◌}
use Rattle.implicit_tiling.specs.Nodes.{is_child_in, child_word}
use Rattle.region_scan.proofs.Scan.{hits}
use Rattle.reference_scan.proofs.children.append_roots.Given as goal

abbrev pub invariant-loop-index : goal.invariant-loop-index
invariant-loop-index l = l.out.items ≡ l.fn.out.items ++ hits (is_child_in l.subtree l.region) (child_word l.subtree) l.index
