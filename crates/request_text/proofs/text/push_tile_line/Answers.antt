use Rattle.std.proofs.Common.{◌≡◌, ap, ◌∙◌, string_bytes, ◌∷◌, []}
use lib.Utf8.{encode}
use Rattle.implicit_tiling.specs.Scene.{Layout}
use Rattle.request_text.proofs.Joined.{line_written, on_ok, pushed}
use Rattle.request_text.proofs.text.push_tile_line.Goals as goal

pub returns : goal.returns
unfolding encode
returns c =
    let scheme : c.layout.inside.scheme ≡ c.args.layout.now.scheme = ap (λ (l : Layout). l.scheme) c.layout.view_is in
    let contents : c.deref.result.now ≡ c.args.layout.now.contents = c.deref.ensures.value ∙ ap (λ (l : Layout). l.contents) c.layout.view_is in
    on_ok c.push.result _ _
    (line_written c.args.layout.now c.layout.inside.scheme c.deref.result.now c.args.tile.now c.args.mask _ _ _ (string_bytes c.push.new.self) scheme contents
    c.in_ok-push_coordinates.ensures c.in_ok-push_contents.ensures)
    (pushed c.push.result (string_bytes c.push.new.self) (string_bytes c.push_contents.new.piece) (10 ∷ []) c.push.ensures.bytes)
