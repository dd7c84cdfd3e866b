use Rattle.std.proofs.Common.{sym, ap}
use Rattle.shared_pool.specs.Seen.{HasAsked}
use Rattle.shared_pool.proofs.ask.look.Goals as goal

pub returns-in-Some-clause-answer : goal.returns-in-Some-clause-answer
returns-in-Some-clause-answer g c =
    let t = c.take-shared.ensures.taken in
    let s = ap (λ s. s.last) c.pin_found.ensures.same in
    coe 0 1 (k. HasAsked g.R.Key.PartialEq.eq g.R.PoolRule.fits c.args.number c.args.key (t k).tag (t k).note (sym s k) c.pin_found.new.seat.gave c.pin_found.new.seat.note c.pin_found.result) (c.pin_found.ensures.answer c.args.number)
