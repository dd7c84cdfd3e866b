use Rattle.std.proofs.Common.{◌∙◌, refl, subst, arith}
use Rattle.implicit_tileset.specs.Scene.{scene_of}
use Rattle.tileset_json.specs.Limits.{IsWithinLimits}
use Rattle.replay_run.proofs.Asking.{next_fits}
use Rattle.replay_run.proofs.Played.{not_begun, begins, stopped, plays_on, breaks, ends, ends_broken, where_told, of_told, of_both, on_ok, not_ok}
use Rattle.replay_run.proofs.playing.play.Goals as goal

pub returns-in_err-core-clause-front : goal.returns-in_err-core-clause-front
returns-in_err-core-clause-front g c = where_told _ _ (λ all. not_begun (scene_of all c.args.layout.now) c.args.frames c.args.passes c.args.input.now _ _ _ (omega arith))

pub loop-event-init : goal.loop-event-init
loop-event-init g c = record {
  core = c.in_ok-core.ensures.core c.args.layout.now;
  within = subst IsWithinLimits c.layout.view_is c.layout.invariant;
  playing = where_told _ _ (λ all. begins (scene_of all c.args.layout.now) c.args.frames c.args.passes c.args.input.now c.in_ok-core.core _ _ _ (c.in_ok-core.ensures.scene (scene_of all c.args.layout.now)) c.new-piece.ensures.bytes);
  later_files = omega arith;
  later = omega arith;
  aside = refl;
  same = refl;
}

pub take_turn-requires-clause-plan : goal.take_turn-requires-clause-plan
take_turn-requires-clause-plan g c = next_fits c.args.layout.now c.loop-event.rest.now c.in-Some.event _ c.in-Some.ensures.0

pub returns-in_err-reply-clause-front : goal.returns-in_err-reply-clause-front
returns-in_err-reply-clause-front g c =
    of_told _ _ _ (λ all p. stopped (scene_of all c.args.layout.now) c.args.frames c.args.passes c.args.input.now c.loop-event.rest.now c.loop-event.core _ _ _ _ _ _ p c.take_turn.ensures.later)
    c.loop-event.invariant.playing

pub returns-in_err-write_reply-clause-given : goal.returns-in_err-write_reply-clause-given
returns-in_err-write_reply-clause-given g c =
    where_told _ _ (λ all. not_ok c.from_residual-in_err-write_reply.result _ _ c.from_residual-in_err-write_reply.ensures.1)

pub returns-in_err-write_reply-clause-front : goal.returns-in_err-write_reply-clause-front
returns-in_err-write_reply-clause-front g c =
    of_both _ _ _ _
    (λ all p t. breaks (scene_of all c.args.layout.now) c.args.frames c.args.passes c.args.input.now c.loop-event.rest.now c.in-Some.behind.now c.loop-event.core c.take_turn.new.core c.in-Some.event c.in_ok-reply.reply
    _ _ _ _ _ _ _ c.loop-event.invariant.within p c.in-Some.ensures.0 (next_fits c.args.layout.now c.loop-event.rest.now c.in-Some.event _ c.in-Some.ensures.0) t c.write_reply.ensures.front)
    c.loop-event.invariant.playing (rw c.loop-event.invariant.same at c.in_ok-reply.ensures.taken)

pub loop-event-preserved-in_ok-write_reply : goal.loop-event-preserved-in_ok-write_reply
loop-event-preserved-in_ok-write_reply g c = record {
  core = c.in_ok-reply.ensures.core;
  within = c.loop-event.invariant.within;
  playing =
      of_both _ _ _ _
      (λ all p t. plays_on (scene_of all c.args.layout.now) c.args.frames c.args.passes c.args.input.now c.loop-event.rest.now c.in-Some.behind.now c.loop-event.core c.take_turn.new.core c.in-Some.event c.in_ok-reply.reply
      _ _ _ _ _ _ _ _ c.loop-event.invariant.within p c.in-Some.ensures.0 (next_fits c.args.layout.now c.loop-event.rest.now c.in-Some.event _ c.in-Some.ensures.0) t c.in_ok-write_reply.ensures.given)
      c.loop-event.invariant.playing (rw c.loop-event.invariant.same at c.in_ok-reply.ensures.taken);
  later_files = omega (arith, c.loop-event.invariant.later_files, c.take_turn.ensures.later);
  later = omega (arith, c.loop-event.invariant.later, c.write_reply.ensures.later);
  aside = c.write_reply.ensures.aside ∙ c.loop-event.invariant.aside;
  same = c.take_turn.ensures.same ∙ c.loop-event.invariant.same;
}

pub loop-event-preserved : goal.loop-event-preserved
loop-event-preserved g c = record {
  core = c.in_ok-reply.ensures.core;
  within = c.loop-event.invariant.within;
  playing =
      of_both _ _ _ _
      (λ all p t. plays_on (scene_of all c.args.layout.now) c.args.frames c.args.passes c.args.input.now c.loop-event.rest.now c.in-Some.behind.now c.loop-event.core c.take_turn.new.core c.in-Some.event c.in_ok-reply.reply
      _ _ _ _ _ _ _ _ c.loop-event.invariant.within p c.in-Some.ensures.0 (next_fits c.args.layout.now c.loop-event.rest.now c.in-Some.event _ c.in-Some.ensures.0) t c.in_ok-write_reply.ensures.given)
      c.loop-event.invariant.playing (rw c.loop-event.invariant.same at c.in_ok-reply.ensures.taken);
  later_files = omega (arith, c.loop-event.invariant.later_files, c.take_turn.ensures.later);
  later = omega (arith, c.loop-event.invariant.later, c.write_reply.ensures.later);
  aside = c.write_reply.ensures.aside ∙ c.loop-event.invariant.aside;
  same = c.take_turn.ensures.same ∙ c.loop-event.invariant.same;
}

pub returns-clause-given : goal.returns-clause-given
returns-clause-given g c =
    of_told _ _ _
    (λ all p. on_ok c.give_rest.result _ _ (ends (scene_of all c.args.layout.now) c.args.frames c.args.passes c.args.input.now c.loop-event.rest.now c.loop-event.core _ _ _ _ _ _ p c.in_default.ensures) c.give_rest.ensures.given)
    c.loop-event.invariant.playing

pub returns-clause-front : goal.returns-clause-front
returns-clause-front g c =
    of_told _ _ _ (λ all p. ends_broken (scene_of all c.args.layout.now) c.args.frames c.args.passes c.args.input.now c.loop-event.rest.now c.loop-event.core _ _ _ _ _ _ p c.give_rest.ensures.front)
    c.loop-event.invariant.playing
