use Rattle.tileset_write.proofs.LayoutStated.{layout_texts_read_back}
use Rattle.tileset_write.proofs.layout_laws.a_layout_text_reads_back.Goals as goal

pub returns : goal.returns
returns c = layout_texts_read_back
