use Rattle.std.proofs.Common.{◌≡◌, ◌++◌, ◌∙◌, ap, arith, take, take_all, string_bytes}
use Rattle.scene_ports.proofs.Giving.{all_but_front}
use Rattle.request_text.proofs.Joined.{on_ok}
use Rattle.request_text.proofs.Lines.{lines_front, line_given, line_front, end_given, end_front}
use Rattle.request_text.proofs.Found.{found_line, front_by_lines, given_by_lines}
use Rattle.request_text.proofs.check_text.write_check.Goals as goal

pub returns-in_err-push_fault_line-clause-front : goal.returns-in_err-push_fault_line-clause-front
returns-in_err-push_fault_line-clause-front g c =
    front_by_lines c.args.scheme c.args.found.now c.args.end _ _
    (lines_front (found_line c.args.scheme) c.args.found.now c.loop-fault.fault-index _ _ _ (all_but_front _ _ _ _ c.loop-fault.invariant.lines))

pub returns-in_err-give_when_full-clause-front : goal.returns-in_err-give_when_full-clause-front
returns-in_err-give_when_full-clause-front g c =
    front_by_lines c.args.scheme c.args.found.now c.args.end _ _
    (line_front _ _ _ (found_line c.args.scheme) c.args.found.now c.loop-fault.fault-index c.fault-item.result _ _ _ (omega arith) c.loop-fault.invariant.lines
    (c.in_ok-push_fault_line.ensures ∙ ap (λ f. string_bytes c.loop-fault.piece ++ found_line c.args.scheme f) c.fault-item.is)
    c.give_when_full.ensures.front)

pub loop-fault-preserved : goal.loop-fault-preserved
loop-fault-preserved g c = record {
  lines = line_given _ _ _ (found_line c.args.scheme) c.args.found.now c.loop-fault.fault-index c.fault-item.result _ _ _ (omega arith) c.loop-fault.invariant.lines
      (c.in_ok-push_fault_line.ensures ∙ ap (λ f. string_bytes c.loop-fault.piece ++ found_line c.args.scheme f) c.fault-item.is)
      c.in_ok-give_when_full.ensures.given;
  later = omega (arith, c.give_when_full.ensures.later, c.loop-fault.invariant.later);
  aside = c.give_when_full.ensures.aside ∙ c.loop-fault.invariant.aside;
}

pub returns-in_err-push_check_end-clause-front : goal.returns-in_err-push_check_end-clause-front
returns-in_err-push_check_end-clause-front g c =
    front_by_lines c.args.scheme c.args.found.now c.args.end _ _
    (lines_front (found_line c.args.scheme) c.args.found.now c.loop-fault.fault-index _ _ _ (all_but_front _ _ _ _ c.loop-fault.invariant.lines))

pub returns-clause-given : goal.returns-clause-given
returns-clause-given g c =
    let all : take c.loop-fault.fault-index c.args.found.now ≡ c.args.found.now = take_all _ _ (omega arith) in
    let lines = rw all at c.loop-fault.invariant.lines in
    on_ok c.give_rest.result _ _
    (λ h. given_by_lines c.args.scheme c.args.found.now c.args.end _ _ (end_given _ _ _ _ _ _ _ lines c.in_ok-push_check_end.ensures h)) c.give_rest.ensures.given

pub returns-clause-front : goal.returns-clause-front
returns-clause-front g c =
    let all : take c.loop-fault.fault-index c.args.found.now ≡ c.args.found.now = take_all _ _ (omega arith) in
    let lines = rw all at c.loop-fault.invariant.lines in
    front_by_lines c.args.scheme c.args.found.now c.args.end _ _ (end_front _ _ _ _ _ _ _ lines c.in_ok-push_check_end.ensures c.give_rest.ensures.front)
