use Rattle.std.proofs.Common.{◌<◌, sym, ap, subst, ◌∙◌}
use Rattle.region_cursor.specs.Cursor.{Cursor, is_last_local}
use Rattle.region_cursor.proofs.Rows.{one_subtree_down}
use Rattle.region_cursor.proofs.cursor.CursorState.go_below.Goals as goal

pub invariant_of-self : goal.invariant_of-self
invariant_of-self c =
    one_subtree_down _ c.swap.new.x.items c.clear.new.self.items c.self.invariant (subst (λ (v : Cursor). v.level < v.region.level) (sym c.self.view_is) c.requires.level)
    (ap is_last_local c.self.view_is ∙ c.requires.last) (rw c.swap.ensures.x_after) c.clear.ensures.items
