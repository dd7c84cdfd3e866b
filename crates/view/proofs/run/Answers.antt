use Rattle.std.proofs.Common.{ap, ◌∙◌, map}
use Rattle.std.specs.Prelude.{Some, string_bytes}
use Rattle.commands.specs.Commands.{serve, asked_seen}
use Rattle.commands.proofs.Counted.{asked_within}
use Rattle.view.proofs.run.Goals as goal

pub run_served-requires-after_bounds : goal.run_served-requires-after_bounds
run_served-requires-after_bounds g c κs within =
    asked_within (map string_bytes c.args.words.now) (serve c.in-Ok-Serve.port c.in-Ok-Serve.viewers c.in-Ok-Serve.frames)
    (c.in-Ok-Serve.ensures ∙ ap (λ a. Some (asked_seen a)) c.in-Ok-Serve.field-0-is)
