use Rattle.tileset_write.proofs.LayoutShort.{layout_texts_are_short}
use Rattle.tileset_write.proofs.layout_laws.a_layout_text_is_short.Goals as goal

pub returns : goal.returns
returns c = layout_texts_are_short
