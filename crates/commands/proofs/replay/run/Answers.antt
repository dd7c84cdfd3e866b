use Rattle.commands.proofs.Playing.{early_plays}
use Rattle.commands.proofs.replay.run.Goals as goal

pub returns-in-Err-clause-plays : goal.returns-in-Err-clause-plays
returns-in-Err-clause-plays g c =
    early_plays c.args.frames c.args.passes (g.S.FileSource.told c.args.files.now) (g.I.Inlet.left c.args.input.now) (g.O.Outlet.given c.args.out.now) _ _ c.in-Err.status c.fetch_layout.ensures.later c.in-Err.ensures.early c.in-Err.ensures.agrees
