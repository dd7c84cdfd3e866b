use Rattle.std.proofs.Common.{◌≡◌, ap, sym, subst, length, map, string_bytes, ◌∙◌}
use Rattle.std.specs.Prelude.{IfSome}
use Rattle.commands.specs.Commands.{asked}
use Rattle.shared_commands.specs.Shared.{batch_asked_for}
use Rattle.view.proofs.run_shared.Goals as goal

pub shared-requires-clause-workers : goal.shared-requires-clause-workers
shared-requires-clause-workers g c κs within =
    subst (λ n. IfSome (batch_asked_for (asked (map string_bytes c.args.words.now))) (λ wish. n ≡ wish.workers))
    (sym (ap length c.as_mut_slice.ensures.value ∙ c.in_ok-desks.ensures.count)) c.requires
