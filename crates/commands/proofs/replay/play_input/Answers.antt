use Rattle.std.proofs.Common.{arith}
use Rattle.implicit_tileset.specs.Scene.{scene_of}
use Rattle.replay_run.proofs.Played.{not_begun, where_told}
use Rattle.commands.proofs.replay.play_input.Goals as goal

pub returns-in-Err-Memory-clause-plays : goal.returns-in-Err-Memory-clause-plays
returns-in-Err-Memory-clause-plays g c =
    let faults = g.S.FileSource.faults c.args.files.now in
    where_told (g.S.FileSource.told c.args.files.now) _ (λ all. where_told (g.I.Inlet.left c.args.input.now) _
    (λ input. not_begun (scene_of all c.args.layout.now) c.args.frames c.args.passes input faults faults (g.O.Outlet.given c.args.out.now) (omega arith)))
