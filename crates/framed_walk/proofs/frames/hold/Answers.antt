use Rattle.std.proofs.Common.{◌∙◌, eqb, Some, refl, sym, ap}
use Rattle.std.proofs.lemmas.Bool.{eqb-true}
use Rattle.framed_walk.proofs.Turns.{has_room, none_waits, some_is_free, hit, brought, given_up}
use Rattle.frame_pool.specs.declared.frame.Asked.TheVariants.{Hit, Granted}
use Rattle.frame_pool.specs.Moves.{after_settle}
use Rattle.subtree_outcome.specs.declared.outcome.Outcome.TheVariants.{Bad}
use Rattle.subtree_outcome.proofs.Fetching.{none_fetched}
use Rattle.framed_walk.proofs.frames.hold.Goals as goal

pub ask-requires : goal.ask-requires
ask-requires g c = has_room c.args.layout.now (g.S.FileSource.told c.args.files.now) c.args.pool.now c.requires.rest

pub unreachable-requires : goal.unreachable-requires
unreachable-requires g c = none_waits c.args.layout.now (g.S.FileSource.told c.args.files.now) c.args.pool.now eqb c.args.key c.requires.rest c.in-Loading.ensures.answer

pub unreachable-requires-in-Busy : goal.unreachable-requires-in-Busy
unreachable-requires-in-Busy g c = some_is_free c.args.layout.now (g.S.FileSource.told c.args.files.now) c.args.pool.now eqb c.args.key c.requires.rest c.in-Busy.ensures.answer

pub returns-in-Hit-clause-held : goal.returns-in-Hit-clause-held
returns-in-Hit-clause-held g c =
    hit c.args.layout.now (g.S.FileSource.told c.args.files.now) c.args.pool.now eqb c.args.key c.in-Hit.frame (λ a b. eqb-true a b) c.requires.rest c.in-Hit.ensures.answer
    c.ask.new.self c.in-Hit.ensures.after

pub returns-in-Ok-clause-held : goal.returns-in-Ok-clause-held
returns-in-Ok-clause-held g c =
    brought c.args.layout.now (g.S.FileSource.told c.args.files.now) c.args.pool.now c.args.key c.in-Granted.frame c.in-Ok.outcome c.requires.rest
    c.ask.new.self c.settle.new.self c.in-Granted.ensures.after c.in-Granted.ensures.next c.in-Ok.ensures.outcome c.settle.ensures.after

pub returns-in-Err-clause-rest : goal.returns-in-Err-clause-rest
returns-in-Err-clause-rest g c =
    given_up c.args.layout.now (g.S.FileSource.told c.args.files.now) c.args.pool.now c.args.key c.in-Granted.frame c.requires.rest
    c.ask.new.self c.settle-in-Err.new.self c.in-Granted.ensures.after c.in-Granted.ensures.next c.settle-in-Err.ensures.after

pub returns-in-Hit-clause-turn : goal.returns-in-Hit-clause-turn
returns-in-Hit-clause-turn g c = record {
  asked = Hit c.in-Hit.frame;
  found = Bad 1;
  answer = c.in-Hit.ensures.answer;
  frame = refl;
  held = c.in-Hit.ensures.after;
  fetched = none_fetched c.args.layout.now (g.S.FileSource.told c.args.files.now) _;
}

pub returns-in-Ok-clause-turn : goal.returns-in-Ok-clause-turn
returns-in-Ok-clause-turn g c = record {
  asked = Granted c.in-Granted.frame;
  found = c.in-Ok.outcome;
  answer = c.in-Granted.ensures.answer;
  frame = refl;
  held = c.settle.ensures.after ∙ ap (after_settle c.in-Granted.frame (Some c.in-Ok.outcome)) c.in-Granted.ensures.after;
  fetched = c.in-Ok.ensures.fetched;
}
