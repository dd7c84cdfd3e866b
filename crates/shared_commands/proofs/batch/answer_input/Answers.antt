use Rattle.std.proofs.Common.{sym, ap, subst, List, ℕ, inr}
use Rattle.std.specs.Prelude.{Option, Err}
use Rattle.std.specs.List.{All}
use Rattle.implicit_tiling.specs.Files.{Files}
use Rattle.shared_commands.specs.Batch.{HasGivenAll, HasGivenSome}
use Rattle.shared_commands.specs.Desks.{files_of, IsFree}
use Rattle.shared_commands.proofs.Firsts.{asked_less, left_free, free_still, left_then}
use Rattle.shared_commands.proofs.Given.{all_since, some_since}
use Rattle.shared_commands.proofs.batch.answer_input.Goals as goal

pub returns-in-Err-clause-left : goal.returns-in-Err-clause-left
returns-in-Err-clause-left g c =
    left_free g.S.FileSource.told g.S.FileSource.faults (files_of g.S.FileSource.told c.args.desks.now) c.args.desks.now c.prepare.new.desks c.requires.free
    (asked_less g.S.FileSource.told g.S.FileSource.faults g.S.FileSource.fetches c.args.desks.now c.prepare.new.desks c.prepare.ensures.asked)

pub answer_lines-requires-clause-free : goal.answer_lines-requires-clause-free
answer_lines-requires-clause-free g c κs within =
    subst (λ (files : Option Files). All (IsFree g.S.FileSource.told files) c.prepare.new.desks) (sym c.in-Ok.ensures.told)
    (free_still g.S.FileSource.told g.S.FileSource.faults (files_of g.S.FileSource.told c.args.desks.now) c.args.desks.now c.prepare.new.desks c.requires.free
    (asked_less g.S.FileSource.told g.S.FileSource.faults g.S.FileSource.fetches c.args.desks.now c.prepare.new.desks c.prepare.ensures.asked))

pub returns-in-Ok-answer_lines-clause-answered : goal.returns-in-Ok-answer_lines-clause-answered
returns-in-Ok-answer_lines-clause-answered g c = λ done.
    let files = files_of g.S.FileSource.told c.args.desks.now in
    let layout = c.in-Ok.prepared.0.scene.tileset.layout in
    let before = g.O.Outlet.given c.args.out.now in
    let now = g.O.Outlet.given c.answer_lines.new.out in (
      record { layout = layout; of_files = c.in-Ok.ensures.layout; input = c.in-Ok.prepared.1.items; whole = c.in-Ok.ensures.whole.0; few = c.in-Ok.ensures.whole.1 },
      all_since g.S.FileSource.told g.S.FileSource.faults files layout c.in-Ok.prepared.1.items c.args.desks.now c.prepare.new.desks c.answer_lines.new.desks before now
          (asked_less g.S.FileSource.told g.S.FileSource.faults g.S.FileSource.fetches c.args.desks.now c.prepare.new.desks c.prepare.ensures.asked)
          (subst (λ (bytes : List ℕ). HasGivenAll g.S.FileSource.faults files layout bytes c.prepare.new.desks c.answer_lines.new.desks before now) c.deref.ensures.value
          (subst (λ (told : Option Files). HasGivenAll g.S.FileSource.faults told layout c.deref.result.now c.prepare.new.desks c.answer_lines.new.desks before now) c.in-Ok.ensures.told
          c.in-Ok-answer_lines.ensures.given)),
    )

pub returns-in-Ok-answer_lines-clause-left : goal.returns-in-Ok-answer_lines-clause-left
returns-in-Ok-answer_lines-clause-left g c =
    left_then g.S.FileSource.told g.S.FileSource.faults c.args.desks.now c.prepare.new.desks c.answer_lines.new.desks
    (asked_less g.S.FileSource.told g.S.FileSource.faults g.S.FileSource.fetches c.args.desks.now c.prepare.new.desks c.prepare.ensures.asked) c.answer_lines.ensures.left

pub returns-in-Err-WriteFault-clause-write_fault : goal.returns-in-Err-WriteFault-clause-write_fault
returns-in-Err-WriteFault-clause-write_fault g c = λ failed.
    let files = files_of g.S.FileSource.told c.args.desks.now in
    let layout = c.in-Ok.prepared.0.scene.tileset.layout in
    let before = g.O.Outlet.given c.args.out.now in
    let now = g.O.Outlet.given c.answer_lines.new.out in (
      c.in-Err-WriteFault.ensures.failed (ap Err c.in-Err-WriteFault.field-0-is),
      (
        record { layout = layout; of_files = c.in-Ok.ensures.layout; input = c.in-Ok.prepared.1.items; whole = c.in-Ok.ensures.whole.0; few = c.in-Ok.ensures.whole.1 },
        some_since g.S.FileSource.told g.S.FileSource.faults files layout c.in-Ok.prepared.1.items c.args.desks.now c.prepare.new.desks c.answer_lines.new.desks before now
            (asked_less g.S.FileSource.told g.S.FileSource.faults g.S.FileSource.fetches c.args.desks.now c.prepare.new.desks c.prepare.ensures.asked)
            (subst (λ (bytes : List ℕ). HasGivenSome g.S.FileSource.faults files layout bytes c.prepare.new.desks c.answer_lines.new.desks before now) c.deref.ensures.value
            (subst (λ (told : Option Files). HasGivenSome g.S.FileSource.faults told layout c.deref.result.now c.prepare.new.desks c.answer_lines.new.desks before now) c.in-Ok.ensures.told
            c.answer_lines.ensures.front)),
      ),
    )

pub returns-in-Err-WriteFault-clause-left : goal.returns-in-Err-WriteFault-clause-left
returns-in-Err-WriteFault-clause-left g c =
    left_then g.S.FileSource.told g.S.FileSource.faults c.args.desks.now c.prepare.new.desks c.answer_lines.new.desks
    (asked_less g.S.FileSource.told g.S.FileSource.faults g.S.FileSource.fetches c.args.desks.now c.prepare.new.desks c.prepare.ensures.asked) c.answer_lines.ensures.left

pub returns-clause-memory : goal.returns-clause-memory
returns-clause-memory g c = λ want.
    let files = files_of g.S.FileSource.told c.args.desks.now in
    let layout = c.in-Ok.prepared.0.scene.tileset.layout in
    let before = g.O.Outlet.given c.args.out.now in
    let now = g.O.Outlet.given c.answer_lines.new.out in
    inr (
      record { layout = layout; of_files = c.in-Ok.ensures.layout; input = c.in-Ok.prepared.1.items; whole = c.in-Ok.ensures.whole.0; few = c.in-Ok.ensures.whole.1 },
      some_since g.S.FileSource.told g.S.FileSource.faults files layout c.in-Ok.prepared.1.items c.args.desks.now c.prepare.new.desks c.answer_lines.new.desks before now
          (asked_less g.S.FileSource.told g.S.FileSource.faults g.S.FileSource.fetches c.args.desks.now c.prepare.new.desks c.prepare.ensures.asked)
          (subst (λ (bytes : List ℕ). HasGivenSome g.S.FileSource.faults files layout bytes c.prepare.new.desks c.answer_lines.new.desks before now) c.deref.ensures.value
          (subst (λ (told : Option Files). HasGivenSome g.S.FileSource.faults told layout c.deref.result.now c.prepare.new.desks c.answer_lines.new.desks before now) c.in-Ok.ensures.told
          c.answer_lines.ensures.front)),
    )

pub returns-clause-left : goal.returns-clause-left
returns-clause-left g c =
    left_then g.S.FileSource.told g.S.FileSource.faults c.args.desks.now c.prepare.new.desks c.answer_lines.new.desks
    (asked_less g.S.FileSource.told g.S.FileSource.faults g.S.FileSource.fetches c.args.desks.now c.prepare.new.desks c.prepare.ensures.asked) c.answer_lines.ensures.left
