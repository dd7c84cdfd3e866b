use Rattle.shared_commands.proofs.Given.{desks_ready, given_all, given_some, all_left, on_ok}
use Rattle.shared_commands.proofs.batch.answer_lines.Goals as goal

pub batch-answered-requires-clause-ready : goal.batch-answered-requires-clause-ready
batch-answered-requires-clause-ready g c κs within =
    desks_ready g.S.FileSource.told g.S.FileSource.faults c.args.started.scene c.args.started.passes.items c.args.desks.now c.put_passes.new.desks c.requires.passes.0 c.requires.passes.1 c.requires.free
    c.put_passes.ensures.count c.put_passes.ensures.passes

pub returns-clause-given : goal.returns-clause-given
returns-clause-given g c =
    on_ok c.batch-answered.result _ _
    (λ h. given_all g.S.FileSource.told g.S.FileSource.faults c.args.started.scene c.args.started.passes.items c.args.desks.now c.put_passes.new.desks c.batch-answered.new.desks c.take_passes.new.desks
    c.requires.passes.0 c.requires.passes.1 c.requires.free c.put_passes.ensures.count c.put_passes.ensures.passes c.batch-answered.ensures.left c.take_passes.ensures c.args.input.now _ _ h)
    c.batch-answered.ensures.given

pub returns-clause-front : goal.returns-clause-front
returns-clause-front g c =
    given_some g.S.FileSource.told g.S.FileSource.faults c.args.started.scene c.args.started.passes.items c.args.desks.now c.put_passes.new.desks c.batch-answered.new.desks c.take_passes.new.desks
    c.requires.passes.0 c.requires.passes.1 c.requires.free c.put_passes.ensures.count c.put_passes.ensures.passes c.batch-answered.ensures.left c.take_passes.ensures c.args.input.now _ _
    c.batch-answered.ensures.front

pub returns-clause-left : goal.returns-clause-left
returns-clause-left g c =
    all_left g.S.FileSource.told g.S.FileSource.faults c.args.started.scene c.args.started.passes.items c.args.desks.now c.put_passes.new.desks c.batch-answered.new.desks c.take_passes.new.desks
    c.requires.passes.0 c.requires.passes.1 c.requires.free c.put_passes.ensures.count c.put_passes.ensures.passes c.batch-answered.ensures.left c.take_passes.ensures
