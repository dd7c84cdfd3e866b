use Rattle.std.proofs.Common.{◌≡◌, ◌+◌, sym, ap, subst, ◌∙◌, arith}
use Rattle.batch_run.proofs.Lines.{own_lines, own_more, other_same, replied_more, answered_more}
use Rattle.batch_run.proofs.work.answer_lines.Goals as goal
use Rattle.batch_run.proofs.work.answer_lines.Goals.{then-worker_of-worker+in_ok-reply+in_ok-push_back, else-worker_of-worker}

pub loop-place-preserved : goal.loop-place-preserved
loop-place-preserved g c =
    let inv = c.loop-place.invariant in
    let seen = g.V.Viewing.seen c.args.scene.now in
    let workers = c.args.workers in
    let worker = c.args.worker in
    let place = c.loop-place.place in
    let lines = c.args.lines.now in
    let before = own_lines workers worker place lines in
    let after = own_lines workers worker (place + 1) lines in
    elim c.if-worker_of-worker.branch [
      | then-worker_of-worker+in_ok-reply+in_ok-push_back w ↦
          let grown = own_more workers worker place lines _ (omega arith) (sym c.worker_of.ensures.worker ∙ w.if-worker_of-worker.true) in
          let pushed = ap (λ q. q.items) w.replies-is ∙ w.in_ok-push_back.ensures.items in
          record {
            replies = replied_more seen.told seen.layout before after c.loop-place.replies.items _ _ w.in_ok-reply.reply grown pushed inv.replies w.in_ok-reply.ensures.reply;
            answered = rw (w.pass-is, w.source-is)
                (answered_more g.P.Pass.whole seen.told seen.layout before after c.loop-place.replies.items _ _ w.in_ok-reply.reply _ _ _ _ _ _ grown pushed inv.replies inv.answered
                w.in_ok-reply.ensures.answered);
            later = omega (arith, inv.later, w.answer_line.ensures.later, ap g.S.FileSource.faults w.source-is);
            told = ap g.S.FileSource.told w.source-is ∙ w.answer_line.ensures.told ∙ inv.told;
            pass = subst seen.is_pass (sym w.pass-is) w.answer_line.ensures.pass;
          }
      | else-worker_of-worker w ↦
          let same : after ≡ before = other_same workers worker place lines (omega arith) (λ own. w.if-worker_of-worker.false (c.worker_of.ensures.worker ∙ own)) in
          record {
            replies = rw (w.replies-is, same) inv.replies;
            answered = rw (w.replies-is, w.pass-is, w.source-is, same) inv.answered;
            later = omega (arith, inv.later, ap g.S.FileSource.faults w.source-is);
            told = ap g.S.FileSource.told w.source-is ∙ inv.told;
            pass = subst seen.is_pass (sym w.pass-is) inv.pass;
          }
    ]
