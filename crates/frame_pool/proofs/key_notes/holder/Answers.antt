use Rattle.std.proofs.Common.{◌≡◌, ◌∙◌, sym, subst, true}
use Rattle.std.proofs.lemmas.Bool.{both_ways, lt-ltb}
use Rattle.std.proofs.lemmas.Option.{same_Some, slice_get_within}
use Rattle.frame_pool.specs.States.{has_key}
use Rattle.frame_pool.proofs.Noted.{holder-at, nobody-unnoted, nobody-stale, inside-reads}
use Rattle.frame_pool.proofs.key_notes.holder.Goals as goal

pub returns-in_err-frame : goal.returns-in_err-frame
returns-in_err-frame g c =
    c.from_residual.ensures
    ∙ sym (nobody-unnoted g.K.PartialEq.eq c.args.census.now c.args.notes.now c.requires c.args.key (sym c.in_err-frame.ensures.value))

pub returns-in_err-state : goal.returns-in_err-state
returns-in_err-state g c =
    let f = c.in_ok-frame.field-0.now in
    c.from_residual-in_err-state.ensures
    ∙ sym (nobody-stale g.K.PartialEq.eq c.args.census.now c.args.notes.now c.requires c.args.key f (sym c.in_ok-frame.ensures.value)
    (λ state at has. both_ways _ (sym c.in_err-state.ensures.lookup.0) (lt-ltb _ _ (slice_get_within c.args.census.now f state at))))

pub returns-then-has : goal.returns-then-has
returns-then-has g c =
    let f = c.in_ok-frame.field-0.now in
    let state = c.in_ok-state.state.now in
    sym (holder-at g.K.PartialEq.eq c.args.census.now c.args.notes.now c.requires c.args.key f state
    (inside-reads c.args.census.now f state (sym c.in_ok-state.ensures.lookup.0) c.in_ok-state.ensures.lookup.1)
    (sym c.if-has.ensures))

pub returns-else-has : goal.returns-else-has
returns-else-has g c =
    let f = c.in_ok-frame.field-0.now in
    let state = c.in_ok-state.state.now in
    let at = inside-reads c.args.census.now f state (sym c.in_ok-state.ensures.lookup.0) c.in_ok-state.ensures.lookup.1 in
    sym (nobody-stale g.K.PartialEq.eq c.args.census.now c.args.notes.now c.requires c.args.key f (sym c.in_ok-frame.ensures.value)
    (λ other here has. both_ways _ (sym c.if-has.ensures) (subst (λ s. has_key g.K.PartialEq.eq c.args.key s ≡ true) (same_Some other state (sym here ∙ at)) has)))
