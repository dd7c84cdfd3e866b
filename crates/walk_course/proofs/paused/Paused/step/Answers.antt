use Rattle.std.proofs.Common.{◌∙◌, ◌+◌, subst, sym, ap}
use Rattle.tile_coords.specs.declared.walk_end.WalkEnd.{WalkEnd}
use Rattle.tile_coords.specs.declared.walk_end.WalkEnd.TheVariants.{Partial}
use Rattle.walk_course.specs.Walk.{Walk, IsPaused, IsReadFor}
use Rattle.walk_course.specs.Course.{Fits, IsToldFor, MakesStep}
use Rattle.walk_course.proofs.Steps.{has_key, fits_step, Stepped, paused_after, makes_step}
use Rattle.walk_course.proofs.paused.Paused.step.Goals as goal

pub step-requires-clause-fits : goal.step-requires-clause-fits
step-requires-clause-fits c =
    let w : Walk = record { state = c.self.inside.state; steps = c.self.inside.steps; end = c.self.inside.end } in
    let going = ap (λ (v : Walk). v.end) c.self.view_is ∙ c.requires.going in
    let read = subst (λ (v : Walk). IsReadFor v c.args.outcome.now) (sym c.self.view_is) c.requires.read in
    fits_step w c.args.outcome.now c.next_key-key.result c.next_key-key.ensures.key c.next_key-key.ensures.root (has_key w c.self.invariant going) read

pub invariant_of-self-2 : goal.invariant_of-self-2
invariant_of-self-2 c =
    let w : Walk = record { state = c.self.inside.state; steps = c.self.inside.steps; end = c.self.inside.end } in
    let going = ap (λ (v : Walk). v.end) c.self.view_is ∙ c.requires.going in
    let read = subst (λ (v : Walk). IsReadFor v c.args.outcome.now) (sym c.self.view_is) c.requires.read in
    let stepped : Stepped w.state c.step.new.self c.args.outcome.now c.step.new.words.items c.in_ok-end.end = record {
      words_are = c.in_ok-end.ensures.words;
      end_is = c.in_ok-end.ensures.end;
      after_is = c.in_ok-end.ensures.after;
      few = c.in_ok-end.ensures.few;
      are_words = c.in_ok-end.ensures.are_words;
      same = c.in_ok-end.ensures.same;
      scene = c.in_ok-end.ensures.scene;
    } in
    subst (λ (e : WalkEnd). IsPaused (record { state = c.step.new.self; steps = w.steps + 1; end = e })) (sym c.same_end-self-inside.ensures)
    (paused_after w c.args.outcome.now c.step.new.words.items c.in_ok-end.end c.step.new.self c.next_key-key.result c.next_key-key.ensures.key c.next_key-key.ensures.root c.self.invariant going read c.is_limited.ensures stepped)

pub returns-clause-step : goal.returns-clause-step
returns-clause-step c = λ tag k n head fits told.
    let w : Walk = record { state = c.self.inside.state; steps = c.self.inside.steps; end = c.self.inside.end } in
    let going = ap (λ (v : Walk). v.end) c.self.view_is ∙ c.requires.going in
    let read = subst (λ (v : Walk). IsReadFor v c.args.outcome.now) (sym c.self.view_is) c.requires.read in
    let stepped : Stepped w.state c.step.new.self c.args.outcome.now c.step.new.words.items c.in_ok-end.end = record {
      words_are = c.in_ok-end.ensures.words;
      end_is = c.in_ok-end.ensures.end;
      after_is = c.in_ok-end.ensures.after;
      few = c.in_ok-end.ensures.few;
      are_words = c.in_ok-end.ensures.are_words;
      same = c.in_ok-end.ensures.same;
      scene = c.in_ok-end.ensures.scene;
    } in
    subst (λ (e : WalkEnd). MakesStep tag k n c.step.new.words.items c.in_ok-end.end (record { state = c.step.new.self; steps = w.steps + 1; end = e })) (sym c.same_end-self-inside.ensures)
    (makes_step w c.args.outcome.now c.step.new.words.items c.in_ok-end.end c.step.new.self c.next_key-key.result c.next_key-key.ensures.key c.next_key-key.ensures.root c.self.invariant going read c.is_limited.ensures stepped
    tag k n head (subst (λ (v : Walk). Fits tag k n Partial v) (sym c.self.view_is) fits) (subst (λ (v : Walk). IsToldFor tag v c.args.outcome.now) (sym c.self.view_is) told))
