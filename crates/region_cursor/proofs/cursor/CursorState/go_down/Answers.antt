use Rattle.std.proofs.Common.{sym, ap, ◌∙◌}
use Rattle.region_cursor.specs.Cursor.{is_last_local}
use Rattle.region_cursor.proofs.Rows.{above_last, one_level_down}
use Rattle.region_cursor.proofs.cursor.CursorState.go_down.Goals as goal

pub invariant_of-self : goal.invariant_of-self
invariant_of-self c =
    one_level_down _ c.self.invariant (above_last _ c.args.self.now c.self.view_is c.self.invariant c.is_last_level.result c.is_last_level.ensures c.if-is_last_level.false)
    (ap is_last_local c.self.view_is ∙ sym c.is_last_local.ensures ∙ c.if-is_last_local.false)
