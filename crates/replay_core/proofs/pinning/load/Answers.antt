use Rattle.std.proofs.Common.{sym, subst, None, Option}
use Rattle.std.specs.Prelude.{IfSome, slice_get}
use Rattle.std.proofs.lemmas.Option.{slice_get_within}
use Rattle.subtree_outcome.specs.declared.outcome.Outcome.{Outcome}
use Rattle.replay_script.specs.declared.reply.Reply.TheVariants.{Loaded, Failed}
use Rattle.replay_machine.specs.Turns.{load}
use Rattle.replay_core.specs.Core.{bare_machine, wanted, IsReadAt, IsOfScene}
use Rattle.replay_core.specs.Events.{AnswersWith}
use Rattle.replay_core.specs.declared.state.Core.{Core}
use Rattle.replay_core.proofs.Frames.{loads_at}
use Rattle.replay_core.proofs.Sound.{loaded_sound, failed_sound}
use Rattle.replay_core.proofs.Scenes.{load_read, load_failed}
use Rattle.replay_core.proofs.pinning.load.Goals as goal

pub settle-requires : goal.settle-requires
settle-requires c = loads_at (bare_machine c.args.core.now) c.args.pass c.in-Loads.frame c.in-Some.state c.requires.core.used (sym c.in-Some.ensures) c.in-Loads.is

pub set-requires : goal.set-requires
set-requires c = slice_get_within c.args.core.now.passes c.args.pass c.in-Some.state (sym c.in-Some.ensures)

pub settle-requires-in-None-read : goal.settle-requires-in-None-read
settle-requires-in-None-read c = loads_at (bare_machine c.args.core.now) c.args.pass c.in-Loads.frame c.in-Some.state c.requires.core.used (sym c.in-Some.ensures) c.in-Loads.is

pub set-requires-in-None-read : goal.set-requires-in-None-read
set-requires-in-None-read c = slice_get_within c.args.core.now.passes c.args.pass c.in-Some.state (sym c.in-Some.ensures)

pub returns-in-Some-read-clause-core : goal.returns-in-Some-read-clause-core
returns-in-Some-read-clause-core c =
    let old = c.args.core.now in
    let read = subst (λ (r : Option Outcome). IfSome (wanted old c.args.pass) (λ key. IfSome r (IsReadAt c.args.layout.now key))) c.in-Some-read.is c.requires.read in
    loaded_sound c.args.layout.now old c.args.pass c.in-Loads.frame c.in-Some.state c.in-Some-read.found c.settle.new.self c.set.new.self (sym c.in-Some.ensures) c.in-Loads.is read c.settle.ensures.after c.set.ensures c.requires.core

pub returns-in-Some-read-clause-scene : goal.returns-in-Some-read-clause-scene
returns-in-Some-read-clause-scene c =
    let old = c.args.core.now in
    let new : Core = record { frames = c.settle.new.self; cursors = old.cursors; passes = c.set.new.self } in
    subst (λ (r : Option Outcome). AnswersWith c.args.layout.now (λ s. IfSome (wanted old c.args.pass) (λ key. IfSome r (IsOfScene s key))) (λ s m. load c.args.pass r m (slice_get m.passes c.args.pass)) old (Loaded c.in-Loads.frame) new)
    (sym c.in-Some-read.is)
    (load_read c.args.layout.now old c.args.pass c.in-Loads.frame c.in-Some-read.found c.in-Some.state c.settle.new.self c.set.new.self (sym c.in-Some.ensures) c.in-Loads.is c.settle.ensures.after c.set.ensures c.requires.core)

pub returns-in-None-read-clause-core : goal.returns-in-None-read-clause-core
returns-in-None-read-clause-core c =
    failed_sound c.args.layout.now c.args.core.now c.args.pass c.in-Loads.frame c.in-Some.state c.settle-in-None-read.new.self c.set-in-None-read.new.self (sym c.in-Some.ensures) c.in-Loads.is c.settle-in-None-read.ensures.after c.set-in-None-read.ensures c.requires.core

pub returns-in-None-read-clause-scene : goal.returns-in-None-read-clause-scene
returns-in-None-read-clause-scene c =
    let old = c.args.core.now in
    let new : Core = record { frames = c.settle-in-None-read.new.self; cursors = old.cursors; passes = c.set-in-None-read.new.self } in
    subst (λ (r : Option Outcome). AnswersWith c.args.layout.now (λ s. IfSome (wanted old c.args.pass) (λ key. IfSome r (IsOfScene s key))) (λ s m. load c.args.pass r m (slice_get m.passes c.args.pass)) old Failed new)
    (sym c.in-None-read.is)
    (load_failed c.args.layout.now old c.args.pass c.in-Loads.frame (λ s. IfSome (wanted old c.args.pass) (λ key. IfSome None (IsOfScene s key))) c.in-Some.state c.settle-in-None-read.new.self c.set-in-None-read.new.self (sym c.in-Some.ensures) c.in-Loads.is
    c.settle-in-None-read.ensures.after c.set-in-None-read.ensures c.requires.core)
