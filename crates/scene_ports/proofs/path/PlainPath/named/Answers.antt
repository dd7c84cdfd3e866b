use Rattle.std.proofs.Common.{◌≡◌, ap, sym, ◌∙◌, subst}
use Rattle.std.specs.Prelude.{IsUtf8, Some, true}
use Rattle.std.specs.Cow.{cow_str_bytes}
use Rattle.percent_encoding.specs.Percent.{percent_decode}
use Rattle.percent_encoding.specs.Iter.{decoded_bytes}
use Rattle.scene_ports.specs.Paths.{is_plain}
use Rattle.scene_ports.proofs.Decoded.{text_path, broken_path, text_error}
use Rattle.scene_ports.proofs.path.PlainPath.named.Goals as goal

pub returns-in-Err-Utf8-clause-path : goal.returns-in-Err-Utf8-clause-path
returns-in-Err-Utf8-clause-path c =
    let bytes = percent_decode c.args.name.now in
    let decoded : decoded_bytes c.percent_decode.result ≡ bytes = c.percent_decode.ensures.bytes ∙ ap percent_decode c.as_bytes.ensures.value in
    broken_path bytes (λ text. text_error _ _ c.in-Err-Utf8.field-0-is tt (c.in-Err-Utf8.ensures.utf8 (rw decoded text)))

pub returns-clause-path : goal.returns-clause-path
returns-clause-path c =
    let bytes = percent_decode c.args.name.now in
    let decoded : decoded_bytes c.percent_decode.result ≡ bytes = c.percent_decode.ensures.bytes ∙ ap percent_decode c.as_bytes.ensures.value in
    let shown : cow_str_bytes c.in-Ok.text ≡ bytes = c.in-Ok.ensures.value ∙ decoded in
    ap (λ path. Some path) shown
    ∙ text_path bytes true (subst IsUtf8 decoded c.in-Ok.ensures.ok_only_if_utf8) (sym c.if-not-is_plain.false ∙ c.is_plain.ensures ∙ ap is_plain (c.as_str.ensures.value ∙ shown))
