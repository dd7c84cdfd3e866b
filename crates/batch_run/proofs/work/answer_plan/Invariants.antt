use Rattle.std.proofs.Common.{◌≡◌}
use Rattle.batch_run.proofs.work.answer_plan.Given as goal

-- nothing was answered yet
abbrev pub invariant-loop : goal.invariant-loop
invariant-loop g l = record {
  walked : g.P.Pass.walked l.pass ≡ g.P.Pass.walked l.fn.pass;
  sure : g.S.FileSource.faults l.source ≡ g.S.FileSource.faults l.fn.source;
  told : g.S.FileSource.told l.source ≡ g.S.FileSource.told l.fn.source;
  pass : (g.V.Viewing.seen l.fn.scene).is_pass l.pass;
}
