use Rattle.request_text.proofs.Lines.{whole_given, whole_front, begun_front}
use Rattle.request_text.proofs.text.write_answer.Goals as goal

pub returns-in_err-append_answer-clause-front : goal.returns-in_err-append_answer-clause-front
returns-in_err-append_answer-clause-front g c = begun_front _ _ _ _ c.new-piece.ensures.bytes c.append_answer.ensures.front

pub returns-clause-given : goal.returns-clause-given
returns-clause-given g c = whole_given _ _ _ _ _ _ c.give_rest.result c.new-piece.ensures.bytes c.in_ok-append_answer.ensures.given c.give_rest.ensures.given

pub returns-clause-front : goal.returns-clause-front
returns-clause-front g c = whole_front _ _ _ _ _ _ c.new-piece.ensures.bytes c.in_ok-append_answer.ensures.given c.give_rest.ensures.front
