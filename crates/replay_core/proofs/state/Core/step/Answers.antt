use Rattle.std.proofs.Common.{sym, subst, Option}
use Rattle.std.specs.Prelude.{slice_get, IfSome}
use Rattle.subtree_outcome.specs.declared.outcome.Outcome.{Outcome}
use Rattle.replay_script.specs.declared.event.Event.{Event}
use Rattle.replay_machine.specs.Turns.{turn, load}
use Rattle.replay_core.specs.Core.{IsReplied, Brings, IsOfScene, wanted}
use Rattle.replay_core.proofs.Stepped.{at_machine_with, brings_is}
use Rattle.replay_core.proofs.state.Core.step.Goals as goal

pub returns-in-Load-clause-scene : goal.returns-in-Load-clause-scene
returns-in-Load-clause-scene c = λ s m is whole brings shown.
    let old = c.args.self.now in
    let told = brings_is (IsOfScene s) old c.in-Load.pass c.in-Load.read (subst (Brings (IsOfScene s) old) c.in-Load.is brings) in
    subst (λ (e : Event (Option Outcome)). IsReplied s (turn s m e) c.load.result c.load.new.core) (sym c.in-Load.is)
    (at_machine_with c.args.layout.now (λ s. IfSome (wanted old c.in-Load.pass) (λ key. IfSome c.in-Load.read (IsOfScene s key))) (λ s m. load c.in-Load.pass c.in-Load.read m (slice_get m.passes c.in-Load.pass))
    old c.load.new.core c.load.result c.load.ensures.scene s m is told shown)
