use Rattle.std.proofs.Common.{subst, sym}
use Rattle.region_cursor.specs.Cursor.{Cursor, FitsSubtree}
use Rattle.region_cursor.proofs.Rows.{gained}
use Rattle.region_cursor.proofs.cursor.CursorState.take_children.Goals as goal

pub invariant_of-self-2 : goal.invariant_of-self-2
invariant_of-self-2 c =
    let fits = subst (λ (v : Cursor). FitsSubtree v c.args.subtree.now) (sym c.self.view_is) c.requires.fits in
    gained _ c.args.subtree.now c.child_roots.new.out.items c.self.invariant fits c.requires.limits c.in_ok-child_roots.ensures.appended
