use Rattle.std.proofs.Common.{◌+◌, ◌∙◌, List, ap, sym, subst, arith, length}
use Rattle.std.proofs.lemmas.List.{length_push}
use Rattle.std.specs.Prelude.{None}
use Rattle.std.specs.List.{All}
use Rattle.viewer_session.specs.Sessions.{IsPassOf}
use Rattle.batch_run.specs.Desks.{IsReady}
use Rattle.shared_commands.specs.Desks.{Place}
use Rattle.viewing_trials.specs.declared.files.Untold.{Untold}
use Rattle.viewing_trials.proofs.Free.{all_pushed}
use Rattle.viewing_trials.proofs.held.desks_with.Goals as goal

pub loop-preserved : goal.loop-preserved
loop-preserved c =
    let scene = c.args.scene.now in
    let Ready : Place Untold → Type 0 = IsReady (λ source. None) (record { told = scene.tileset.told; layout = scene.tileset.layout; is_pass = IsPassOf scene }) in
    record {
      many = ap length c.in_ok-push.ensures.items ∙ length_push c.loop.desks.items c.next_desk-next.result ∙ ap (λ n. n + 1) c.loop.invariant.many;
      left = omega (arith, c.loop.invariant.left, c.next_desk-next.ensures.fewer);
      new = c.next_desk-next.ensures.passes;
      ready = subst (λ (desks : List (Place Untold)). All Ready desks) (sym c.in_ok-push.ensures.items) (all_pushed Ready c.loop.desks.items c.next_desk-next.result c.loop.invariant.ready c.next_desk-next.ensures.ready);
    }
