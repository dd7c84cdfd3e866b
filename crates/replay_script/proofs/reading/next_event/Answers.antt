use Rattle.std.proofs.Common.{◌∷◌, map, sym, ap, ◌∙◌}
use Rattle.replay_script.specs.Script.{event_of, script_of}
use Rattle.replay_script.proofs.reading.next_event.Goals as goal

pub returns-in-Some : goal.returns-in-Some
returns-in-Some c = (
  ap (map (event_of c.args.layout.now.scheme c.args.layout.now.levels)) c.in-Some.ensures.0
      ∙ ap (λ e. e ∷ script_of c.args.layout.now.scheme c.args.layout.now.levels c.in-Some.rest.now) (sym c.read_event.ensures),
  c.in-Some.ensures.1,
)

pub returns-in-None : goal.returns-in-None
returns-in-None c = ap (map (event_of c.args.layout.now.scheme c.args.layout.now.levels)) c.in-None.ensures
