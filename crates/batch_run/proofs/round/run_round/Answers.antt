use Rattle.std.proofs.Common.{map}
use Rattle.batch_run.proofs.Rounds.{worked_replies, left_worked, left_written, round_given, round_begun, nothing_begun, on_ok}
use Rattle.batch_run.proofs.round.run_round.Goals as goal

pub returns-then-lack_memory-clause-front : goal.returns-then-lack_memory-clause-front
returns-then-lack_memory-clause-front g c =
    nothing_begun g.S.FileSource.told g.S.FileSource.faults (g.V.Viewing.seen c.args.scene.now) (map (λ line. line.now) c.args.lines.now) c.args.desks.now c.answer_lines.new.desks _
    (left_worked g.S.FileSource.told g.S.FileSource.faults g.P.Pass.walked g.P.Pass.whole (g.V.Viewing.seen c.args.scene.now) (map (λ line. line.now) c.args.lines.now) c.args.desks.now
    c.answer_lines.new.desks c.answer_lines.ensures.count c.answer_lines.ensures.worked)

pub returns-then-lack_memory-clause-left : goal.returns-then-lack_memory-clause-left
returns-then-lack_memory-clause-left g c =
    left_worked g.S.FileSource.told g.S.FileSource.faults g.P.Pass.walked g.P.Pass.whole (g.V.Viewing.seen c.args.scene.now) (map (λ line. line.now) c.args.lines.now) c.args.desks.now
    c.answer_lines.new.desks c.answer_lines.ensures.count c.answer_lines.ensures.worked

pub write_blocks-requires-clause-replies : goal.write_blocks-requires-clause-replies
write_blocks-requires-clause-replies g c =
    worked_replies g.S.FileSource.told g.S.FileSource.faults g.P.Pass.walked g.P.Pass.whole (g.V.Viewing.seen c.args.scene.now) (map (λ line. line.now) c.args.lines.now) c.args.desks.now
    c.answer_lines.new.desks c.requires.some c.answer_lines.ensures.count c.answer_lines.ensures.worked (c.lack_memory.ensures c.if-lack_memory.false)

pub returns-clause-given : goal.returns-clause-given
returns-clause-given g c =
    on_ok c.write_blocks.result _ _
    (λ h. round_given g.S.FileSource.told g.S.FileSource.faults g.P.Pass.walked g.P.Pass.whole (g.V.Viewing.seen c.args.scene.now) (map (λ line. line.now) c.args.lines.now) c.args.desks.now
    c.answer_lines.new.desks c.write_blocks.new.desks h.0 _ _ c.answer_lines.ensures.count c.answer_lines.ensures.worked (c.lack_memory.ensures c.if-lack_memory.false) h.1
    c.write_blocks.ensures.left h.2)
    c.write_blocks.ensures.given

pub returns-clause-front : goal.returns-clause-front
returns-clause-front g c =
    let h = c.write_blocks.ensures.front in
    round_begun g.S.FileSource.told g.S.FileSource.faults g.P.Pass.walked g.P.Pass.whole (g.V.Viewing.seen c.args.scene.now) (map (λ line. line.now) c.args.lines.now) c.args.desks.now
    c.answer_lines.new.desks c.write_blocks.new.desks h.0 _ _ c.answer_lines.ensures.count c.answer_lines.ensures.worked (c.lack_memory.ensures c.if-lack_memory.false) h.1
    c.write_blocks.ensures.left h.2

pub returns-clause-left : goal.returns-clause-left
returns-clause-left g c =
    left_written g.S.FileSource.told g.S.FileSource.faults g.P.Pass.walked g.P.Pass.whole (g.V.Viewing.seen c.args.scene.now) (map (λ line. line.now) c.args.lines.now) c.args.desks.now
    c.answer_lines.new.desks c.write_blocks.new.desks
    (left_worked g.S.FileSource.told g.S.FileSource.faults g.P.Pass.walked g.P.Pass.whole (g.V.Viewing.seen c.args.scene.now) (map (λ line. line.now) c.args.lines.now) c.args.desks.now
    c.answer_lines.new.desks c.answer_lines.ensures.count c.answer_lines.ensures.worked)
    c.write_blocks.ensures.left
