use Rattle.std.proofs.Common.{◌≡◌, ◌++◌, ◌∙◌, ap, arith, take, take_all, string_bytes}
use Rattle.implicit_tiling.specs.Text.{word_line}
use Rattle.scene_ports.proofs.Giving.{all_but_front}
use Rattle.replay_script.proofs.Written.{lines_front, line_given, line_front}
use Rattle.replay_script.proofs.reply_text.write_words.Goals as goal

pub returns-in_err-push_word_line-clause-front : goal.returns-in_err-push_word_line-clause-front
returns-in_err-push_word_line-clause-front g c =
    lines_front (word_line c.args.layout.now) c.args.words.now c.loop-word.word-index _ _ _ (all_but_front _ _ _ _ c.loop-word.invariant.lines)

pub returns-in_err-give_when_full-clause-front : goal.returns-in_err-give_when_full-clause-front
returns-in_err-give_when_full-clause-front g c =
    line_front _ _ _ (word_line c.args.layout.now) c.args.words.now c.loop-word.word-index c.word-item.result _ _ _ (omega arith) c.loop-word.invariant.lines
    (c.in_ok-push_word_line.ensures ∙ ap (λ w. string_bytes c.loop-word.piece ++ word_line c.args.layout.now w) c.word-item.is) c.give_when_full.ensures.front

pub loop-word-preserved : goal.loop-word-preserved
loop-word-preserved g c = record {
  lines = line_given _ _ _ (word_line c.args.layout.now) c.args.words.now c.loop-word.word-index c.word-item.result _ _ _ _ (omega arith) c.loop-word.invariant.lines
      (c.in_ok-push_word_line.ensures ∙ ap (λ w. string_bytes c.loop-word.piece ++ word_line c.args.layout.now w) c.word-item.is) c.in_ok-give_when_full.ensures.given;
  later = omega (arith, c.give_when_full.ensures.later, c.loop-word.invariant.later);
  aside = c.give_when_full.ensures.aside ∙ c.loop-word.invariant.aside;
}

pub returns-clause-given : goal.returns-clause-given
returns-clause-given g c =
    let all : take c.loop-word.word-index c.args.words.now ≡ c.args.words.now = take_all _ _ (omega arith) in
    rw all at c.loop-word.invariant.lines

pub returns-clause-front : goal.returns-clause-front
returns-clause-front g c =
    lines_front (word_line c.args.layout.now) c.args.words.now c.loop-word.word-index _ _ _ (all_but_front _ _ _ _ c.loop-word.invariant.lines)
