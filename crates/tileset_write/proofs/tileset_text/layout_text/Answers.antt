use Rattle.std.proofs.Common.{◌∙◌, ap}
use Rattle.std.proofs.lemmas.Result.{on_ok_weaker}
use Rattle.serde_json.specs.Written.{has_float, compact_text}
use Rattle.tileset_write.specs.LayoutText.{layout_text}
use Rattle.tileset_write.proofs.LayoutMade.{no_float, text_added}
use Rattle.tileset_write.proofs.LayoutStated.{layout_texts_read_back}
use Rattle.tileset_write.proofs.tileset_text.layout_text.Goals as goal

pub returns-clause-ok : goal.returns-clause-ok
returns-clause-ok c =
    let layout = c.args.layout.now in
    let value = c.in_ok-layout_value.ensures.value in
    text_added c.extend_from_slice.result c.args.out.now.items c.deref.result.now c.extend_from_slice.new.self.items (layout_text layout) c.extend_from_slice.ensures.items
    (c.deref.ensures.value ∙ c.in_ok-text.ensures.text (ap has_float value ∙ no_float layout) ∙ ap compact_text value)

pub returns-clause-stated : goal.returns-clause-stated
returns-clause-stated c = on_ok_weaker c.extend_from_slice.result (λ _. layout_texts_read_back c.args.layout.now c.in_ok-layout_value.ensures.layout) (returns-clause-ok c)
