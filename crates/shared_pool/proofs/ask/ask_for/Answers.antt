use Rattle.std.proofs.Common.{◌≡◌, ◌∙◌, sym, ap, subst}
use Rattle.frame_pool.specs.declared.frame.Asked.TheVariants.{Hit as hit, Busy as busy}
use Rattle.frame_pool.specs.Moves.{IsAskAnswer, after_ask}
use Rattle.shared_pool.proofs.Finds.{more-pins}
use Rattle.shared_pool.proofs.Passes.{has-number}
use Rattle.shared_pool.proofs.ask.ask_for.Goals as goal

pub ask-requires : goal.ask-requires
ask-requires g c = let f = c.requires.out.3 in more-pins g.R.Key.PartialEq.eq g.R.PoolRule.fits c.args.seat.now.tag f.0 c.args.shared f.3 c.requires.out.2

pub unreachable-requires : goal.unreachable-requires
unreachable-requires g c = c.requires.none c.in-Hit.field-0 (subst (IsAskAnswer g.R.Key.PartialEq.eq c.args.key c.args.shared.pool) c.in-Hit.is c.ask.ensures.answer)

pub miss-requires-clause-answer : goal.miss-requires-clause-answer
miss-requires-clause-answer g c =
    let same : c.ask.new.self ≡ c.args.shared.pool = c.ask.ensures.after ∙ ap (after_ask c.args.key c.args.shared.pool) c.in-Busy.is in
    subst (λ p. IsAskAnswer g.R.Key.PartialEq.eq c.args.key p busy) (sym same) (subst (IsAskAnswer g.R.Key.PartialEq.eq c.args.key c.args.shared.pool) c.in-Busy.is c.ask.ensures.answer)

pub miss-requires-clause-idle : goal.miss-requires-clause-idle
miss-requires-clause-idle g c = (c.requires.idle, has-number c.args.number c.args.seat.now.note.granted c.requires.number)
