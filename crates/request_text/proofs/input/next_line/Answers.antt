use Rattle.std.proofs.Common.{◌≡◌, ◌∷◌, ap, sym, ◌∙◌}
use Rattle.request_text.specs.Input.{input_lines}
use Rattle.request_text.proofs.Splitting.{first_of_more, rest_is_shorter}
use Rattle.request_text.proofs.input.next_line.Goals as goal

pub returns-in-Some : goal.returns-in-Some
returns-in-Some c =
    let first = first_of_more c.args.input.now c.in-Some.piece.now c.in-Some.rest.now c.in-Some.ensures in (
      first ∙ ap (λ line. line ∷ input_lines c.in-Some.rest.now) (sym c.without_return.ensures),
      rest_is_shorter c.args.input.now c.in-Some.piece.now c.in-Some.rest.now c.in-Some.ensures,
    )
