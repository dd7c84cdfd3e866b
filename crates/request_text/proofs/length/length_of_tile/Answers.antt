use Rattle.std.proofs.Common.{◌≡◌, ap, ◌∙◌}
use Rattle.implicit_tiling.specs.Scene.{Layout}
use Rattle.request_text.proofs.Joined.{length_of_line}
use Rattle.request_text.proofs.length.length_of_tile.Goals as goal

pub returns-clause-length : goal.returns-clause-length
returns-clause-length c =
    let scheme : c.layout.inside.scheme ≡ c.args.layout.now.scheme = ap (λ (l : Layout). l.scheme) c.layout.view_is in
    let contents : c.deref.result.now ≡ c.args.layout.now.contents = c.deref.ensures.value ∙ ap (λ (l : Layout). l.contents) c.layout.view_is in
    length_of_line c.args.layout.now c.layout.inside.scheme c.deref.result.now c.args.tile.now c.args.mask _ _ scheme contents c.length_of_place.ensures.length
    c.length_of_contents.ensures.length
