use Rattle.std.proofs.Common.{◌≡◌, ◌≤◌}
use Rattle.batch_blocks.specs.Replies.{blocks_of, AreRepliesTo}
use Rattle.batch_run.specs.Batches.{HasAnswered}
use Rattle.batch_run.proofs.Lines.{own_lines}
use Rattle.batch_run.proofs.work.answer_lines.Given as goal

-- the worker's lines so far are answered
abbrev pub invariant-loop-place : goal.invariant-loop-place
invariant-loop-place g l =
    let seen = g.V.Viewing.seen l.fn.scene in
    let lines = own_lines l.fn.workers l.fn.worker l.place l.fn.lines in
    record {
      replies : AreRepliesTo seen.told seen.layout lines l.replies.items;
      answered : HasAnswered g.P.Pass.whole seen.layout (blocks_of seen.layout lines l.replies.items) (g.S.FileSource.faults l.fn.source) (g.S.FileSource.faults l.source)
          (g.P.Pass.walked l.fn.pass) (g.P.Pass.walked l.pass);
      later : g.S.FileSource.faults l.fn.source ≤ g.S.FileSource.faults l.source;
      told : g.S.FileSource.told l.source ≡ g.S.FileSource.told l.fn.source;
      pass : seen.is_pass l.pass;
    }
