-- A layout whose numbers and templates were seen keeps to its limits.
use Rattle.std.proofs.Common.{◌≡◌, subst}
use Rattle.std.specs.List.{All}
use Rattle.implicit_tiling.specs.Scene.{Layout}
use Rattle.tileset_json.specs.Limits.{IsWithinLimits}
use Rattle.tileset_write.specs.LayoutText.{IsTemplateText, IsLayout}

pub layout_kept : (made layout : Layout) → made ≡ layout → IsWithinLimits made → IsTemplateText made.subtree → All IsTemplateText made.contents → IsLayout layout
layout_kept made layout same limits subtree contents = subst IsLayout same (record { limits = limits; subtree = subtree; contents = contents })
