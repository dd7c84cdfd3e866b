use Rattle.std.proofs.Common.{ap, ◌∙◌, arith, map}
use Rattle.std.specs.Prelude.{Some, string_bytes}
use Rattle.commands.specs.Commands.{asked, asked_seen, batch}
use Rattle.commands.proofs.Counted.{asked_within}
use Rattle.shared_commands.specs.Desks.{files_of}
use Rattle.shared_commands.specs.Shared.{batch_asked_for}
use Rattle.shared_commands.proofs.Asking.{batch_is_asked, count_of, of_wish}
use Rattle.shared_commands.proofs.Ends.{memory_over}
use Rattle.shared_commands.proofs.program.shared.Goals as goal

pub answer_input-requires-clause-frames : goal.answer_input-requires-clause-frames
answer_input-requires-clause-frames g c κs within =
    let ranges = asked_within (map string_bytes c.args.words.now) (batch c.in-Ok-Batch.field-0-0 c.in-Ok-Batch.frames) (c.in-Ok-Batch.ensures ∙ ap (λ a. Some (asked_seen a)) c.in-Ok-Batch.field-0-is) in
    (ranges.2, ranges.3)

pub answer_input-requires-clause-desks : goal.answer_input-requires-clause-desks
answer_input-requires-clause-desks g c κs within =
    let words = map string_bytes c.args.words.now in
    let read = c.in-Ok-Batch.ensures ∙ ap (λ a. Some (asked_seen a)) c.in-Ok-Batch.field-0-is in
    let ranges = asked_within words (batch c.in-Ok-Batch.field-0-0 c.in-Ok-Batch.frames) read in
    let count = count_of (batch_asked_for (asked words)) (record { workers = c.in-Ok-Batch.field-0-0; frames = c.in-Ok-Batch.frames }) _ (batch_is_asked (asked words) c.in-Ok-Batch.field-0-0 c.in-Ok-Batch.frames read)
    c.requires.workers in
    (omega (arith, count, ranges.0), omega (arith, count, ranges.1))

pub returns-in-Err-Memory-clause-layout : goal.returns-in-Err-Memory-clause-layout
returns-in-Err-Memory-clause-layout g c =
    of_wish (batch_asked_for (asked (map string_bytes c.args.words.now))) _ (memory_over (files_of g.S.FileSource.told c.args.desks.now))
