use Rattle.std.proofs.Common.{◌≡◌, ◌++◌, ◌∙◌, false, sym, ap, append-nil}
use Rattle.implicit_tiling.specs.Subtree.{Subtree}
use Rattle.region_scan.specs.Found.{is_looked_at}
use Rattle.region_scan.proofs.NodeTiles.{no_children}
use Rattle.region_scan.proofs.children.child_roots.Goals as goal

pub returns-then-not-is_looked_at-clause-appended : goal.returns-then-not-is_looked_at-clause-appended
returns-then-not-is_looked_at-clause-appended c =
    let past : is_looked_at c.args.subtree.now c.args.subtree.now.levels c.args.region.now ≡ false =
    ap (λ (s : Subtree). is_looked_at c.args.subtree.now s.levels c.args.region.now) (sym c.subtree.view_is) ∙ sym c.is_looked_at.ensures ∙ c.if-not-is_looked_at.true in
    sym (ap (λ xs. c.args.out.now.items ++ xs) (no_children c.args.subtree.now c.args.region.now past) ∙ append-nil c.args.out.now.items)
