use Rattle.std.proofs.Common.{map}
use Rattle.std.specs.Prelude.{string_bytes}
use Rattle.commands.specs.Commands.{asked, asked_seen, promised}
use Rattle.commands.proofs.Answering.{of_wanted, nothing_begun, complete_of, failed_write_of, replies_of}
use Rattle.commands.proofs.Ends.{memory_ends, memory_leaves, memory_plays, nothing_first}
use Rattle.commands.proofs.Counted.{asked_within}
use Rattle.commands.proofs.program.plain.Goals as goal

pub returns-in-Ok-clause-complete : goal.returns-in-Ok-clause-complete
returns-in-Ok-clause-complete g c =
    complete_of (g.S.FileSource.told c.args.files.now) (asked (map string_bytes c.args.words.now)) (asked_seen c.in-Ok.asked) _ _ _ _ _ _ _ c.in-Ok.ensures c.run.ensures.replies c.run.ensures.read_fault c.run.ensures.write_fault

pub returns-in-Ok-clause-write_fault : goal.returns-in-Ok-clause-write_fault
returns-in-Ok-clause-write_fault g c = failed_write_of (asked (map string_bytes c.args.words.now)) (asked_seen c.in-Ok.asked) _ _ _ c.in-Ok.ensures c.run.ensures.write_fault

pub returns-in-Err-Memory-clause-replies : goal.returns-in-Err-Memory-clause-replies
returns-in-Err-Memory-clause-replies g c =
    of_wanted ((promised (asked (map string_bytes c.args.words.now))).reply (g.S.FileSource.told c.args.files.now)) _ (λ w. nothing_begun w (g.O.Outlet.given c.args.out.now))

pub returns-in-Err-Memory-clause-ends : goal.returns-in-Err-Memory-clause-ends
returns-in-Err-Memory-clause-ends g c = memory_ends (asked (map string_bytes c.args.words.now))

pub returns-in-Err-Memory-clause-leaves : goal.returns-in-Err-Memory-clause-leaves
returns-in-Err-Memory-clause-leaves g c = memory_leaves (asked (map string_bytes c.args.words.now)) (g.K.FileKeeper.kept c.args.keep.now)

pub returns-in-Err-Memory-clause-first : goal.returns-in-Err-Memory-clause-first
returns-in-Err-Memory-clause-first g c = nothing_first (asked (map string_bytes c.args.words.now)) (g.K.FileKeeper.kept c.args.keep.now) (g.O.Outlet.given c.args.out.now)

pub returns-in-Err-Usage-clause-first : goal.returns-in-Err-Usage-clause-first
returns-in-Err-Usage-clause-first g c = nothing_first (asked (map string_bytes c.args.words.now)) (g.K.FileKeeper.kept c.args.keep.now) (g.O.Outlet.given c.args.out.now)

pub run-requires : goal.run-requires
run-requires g c = asked_within (map string_bytes c.args.words.now) (asked_seen c.in-Ok.asked) c.in-Ok.ensures

pub returns-in-Ok-clause-replies : goal.returns-in-Ok-clause-replies
returns-in-Ok-clause-replies g c =
    replies_of (g.S.FileSource.told c.args.files.now) (asked (map string_bytes c.args.words.now)) (asked_seen c.in-Ok.asked) _ _ _ c.in-Ok.ensures c.run.ensures.replies

pub returns-in-Err-Memory-clause-plays : goal.returns-in-Err-Memory-clause-plays
returns-in-Err-Memory-clause-plays g c =
    memory_plays (asked (map string_bytes c.args.words.now)) (g.S.FileSource.told c.args.files.now) (g.I.Inlet.left c.args.input.now) (g.O.Outlet.given c.args.out.now) (g.S.FileSource.faults c.args.files.now)
