use Rattle.std.proofs.Common.{ap}
use Rattle.std.specs.List.{flat_map}
use Rattle.implicit_tiling.specs.Text.{word_line}
use Rattle.request_text.proofs.Joined.{on_ok}
use Rattle.replay_script.specs.Replies.{first_line, reply_words}
use Rattle.replay_script.proofs.Written.{parts_given, parts_front, first_front}
use Rattle.replay_script.proofs.reply_text.write_reply.Goals as goal

pub returns-in_err-give_when_full-clause-front : goal.returns-in_err-give_when_full-clause-front
returns-in_err-give_when_full-clause-front g c =
    first_front _ _ _ _ (first_line c.args.reply.now) (flat_map (word_line c.args.layout.now) (reply_words c.args.reply.now)) c.in_ok-push_first_line.ensures c.give_when_full.ensures.front

pub returns-clause-given : goal.returns-clause-given
returns-clause-given g c =
    on_ok c.write_words.result _ _
    (parts_given _ _ _ _ _ _ _ (first_line c.args.reply.now) (flat_map (word_line c.args.layout.now) c.words.result.now)
    (flat_map (word_line c.args.layout.now) (reply_words c.args.reply.now)) c.in_ok-push_first_line.ensures
    (ap (flat_map (word_line c.args.layout.now)) c.words.ensures) c.in_ok-give_when_full.ensures.given)
    c.write_words.ensures.given

pub returns-clause-front : goal.returns-clause-front
returns-clause-front g c =
    parts_front _ _ _ _ _ _ (first_line c.args.reply.now) (flat_map (word_line c.args.layout.now) c.words.result.now)
    (flat_map (word_line c.args.layout.now) (reply_words c.args.reply.now)) c.in_ok-push_first_line.ensures
    (ap (flat_map (word_line c.args.layout.now)) c.words.ensures) c.in_ok-give_when_full.ensures.given c.write_words.ensures.front
