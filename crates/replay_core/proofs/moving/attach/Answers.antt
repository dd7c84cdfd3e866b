use Rattle.std.proofs.Common.{ℕ, refl, sym, subst, Result}
use Rattle.std.proofs.lemmas.Option.{slice_get_within}
use Rattle.implicit_tiling.specs.Region.{Plan}
use Rattle.replay_script.specs.declared.reply.Reply.TheVariants.{Refused, Cursor}
use Rattle.replay_machine.specs.Machine.{standing}
use Rattle.replay_machine.specs.Turns.{attach}
use Rattle.replay_core.specs.Events.{Answers}
use Rattle.replay_core.proofs.Sound.{free_frame, attached_sound}
use Rattle.replay_core.proofs.Scenes.{attach_refused, attach_done}
use Rattle.replay_core.specs.declared.state.Core.{Core}
use Rattle.replay_core.proofs.moving.attach.Goals as goal

pub returns-in-Err-clause-scene : goal.returns-in-Err-clause-scene
returns-in-Err-clause-scene c =
    let old = c.args.core.now in
    subst (λ (a : Result Plan ℕ). Answers c.args.layout.now (λ s m. attach c.args.pass a m (standing m c.args.pass)) old (Refused c.in-Err.number) old) (sym c.in-Err.is)
    (attach_refused c.args.layout.now old c.args.pass c.in-Err.number (c.if-not-is_free.ensures.free refl))

pub set-requires : goal.set-requires
set-requires c =
    let free = c.if-not-is_free.ensures.free refl in
    slice_get_within c.args.core.now.passes c.args.pass free.0 (free_frame c.args.layout.now c.args.core.now c.args.pass c.requires.core free).0

pub returns-clause-core : goal.returns-clause-core
returns-clause-core c =
    attached_sound c.args.layout.now c.args.core.now c.args.pass c.in_ok-cursor.cursor c.in-Ok.plan c.of_plan.new.self c.set.new.self (c.if-not-is_free.ensures.free refl) c.in_ok-cursor.ensures.found c.set.ensures c.requires.core

pub returns-clause-scene : goal.returns-clause-scene
returns-clause-scene c =
    let old = c.args.core.now in
    let new : Core = record { frames = old.frames; cursors = c.of_plan.new.self; passes = c.set.new.self } in
    subst (λ (a : Result Plan ℕ). Answers c.args.layout.now (λ s m. attach c.args.pass a m (standing m c.args.pass)) old (Cursor c.in_ok-cursor.cursor) new) (sym c.in-Ok.is)
    (attach_done c.args.layout.now old c.args.pass c.in_ok-cursor.cursor c.in-Ok.plan c.of_plan.new.self c.set.new.self (c.if-not-is_free.ensures.free refl) c.in_ok-cursor.ensures.found c.set.ensures)
