use Rattle.std.proofs.Common.{◌≡◌, ◌+◌, ℕ, subst, sym, ap, ◌∙◌}
use Rattle.std.specs.List.{All}
use Rattle.std.proofs.lemmas.List.Elements.{All-same}
use Rattle.std.proofs.lemmas.Result.{IfOk-weaker}
use Rattle.implicit_tiling.specs.Scene.{Scene}
use Rattle.subtree_outcome.specs.declared.outcome.Outcome.TheVariants.{Good, Bad}
use Rattle.subtree_outcome.specs.Found.{IsTileWord}
use Rattle.region_cursor.specs.Cursor.{next_root, Fits, EndsAtKey}
use Rattle.region_cursor.specs.Moves.{made_good}
use Rattle.subtree_outcome.specs.Outcomes.{outcome_seen, HasNoOrphans}
use Rattle.region_cursor.specs.Walked.{IsAt, GivesStep}
use Rattle.region_cursor.proofs.Results.{if_all}
use Rattle.region_cursor.proofs.Words.{words_of_step}
use Rattle.region_cursor.proofs.Walked.{makes_as_given}
use Rattle.region_cursor.proofs.Rows.{good_ends, faulty_ends}
use Rattle.region_cursor.proofs.cursor.CursorState.step.Goals as goal

pub returns-in-Good-clause-are_words : goal.returns-in-Good-clause-are_words
returns-in-Good-clause-are_words c =
    let self = c.args.self.now in
    let st = c.in-Good.subtree in
    let fits = subst (Fits self) c.in-Good.is c.requires.fits in
    IfOk-weaker c.step_good.result (λ end. c.step_good.new.words.items ≡ (made_good self st).words) (λ end. All (IsTileWord self.scheme self.levels self.contents) c.step_good.new.words.items)
    (λ end words. All-same (IsTileWord self.scheme self.levels self.contents) c.step_good.new.words.items (made_good self st).words words (words_of_step self st fits c.step_good.ensures.limits)) c.step_good.ensures.words

pub returns-in-Good-clause-root : goal.returns-in-Good-clause-root
returns-in-Good-clause-root c =
    let self = c.args.self.now in
    let st = c.in-Good.subtree in
    IfOk-weaker c.step_good.result (λ end. end ≡ (made_good self st).end) (EndsAtKey self c.args.outcome.now) (λ end made. good_ends self c.args.outcome.now st end made) c.step_good.ensures.end

pub returns-in-Bad-clause-root : goal.returns-in-Bad-clause-root
returns-in-Bad-clause-root c =
    let self = c.args.self.now in
    let n = c.in-Bad.number in
    subst (λ o. EndsAtKey self o c.step_bad.result) (sym c.in-Bad.is) (faulty_ends self n c.step_bad.result c.step_bad.ensures.limits c.requires.key c.step_bad.ensures.end)

pub returns-in-Good-clause-scene : goal.returns-in-Good-clause-scene
returns-in-Good-clause-scene c =
    let self = c.args.self.now in
    let st = c.in-Good.subtree in
    let fits = subst (Fits self) c.in-Good.is c.requires.fits in
    let told = ap outcome_seen (sym c.in-Good.is) in
    if_all c.step_good.result
    (λ end. c.step_good.new.words.items ≡ (made_good self st).words) (λ end. end ≡ (made_good self st).end) (λ end. c.step_good.new.self ≡ (made_good self st).after)
    (λ end. (s : Scene) (k : ℕ) → HasNoOrphans s → IsAt s self.region k self → outcome_seen c.args.outcome.now ≡ s.outcome (next_root self)
    → GivesStep s self.region k c.step_good.new.words.items end × IsAt s self.region (k + 1) c.step_good.new.self)
    (λ end words end_is after. λ s k whole is same.
    makes_as_given s self.region k self (Good st) c.step_good.new.words.items end c.step_good.new.self words end_is after is c.requires.key fits whole c.step_good.ensures.limits (told ∙ same))
    c.step_good.ensures.words c.step_good.ensures.end c.step_good.ensures.after

pub returns-in-Bad-clause-scene : goal.returns-in-Bad-clause-scene
returns-in-Bad-clause-scene c =
    let self = c.args.self.now in
    let n = c.in-Bad.number in
    let told = ap outcome_seen (sym c.in-Bad.is) in
    λ s k whole is same.
    makes_as_given s self.region k self (Bad n) c.clear.new.self.items c.step_bad.result c.step_bad.new.self c.clear.ensures.items c.step_bad.ensures.end c.step_bad.ensures.after is c.requires.key tt whole tt (told ∙ same)
