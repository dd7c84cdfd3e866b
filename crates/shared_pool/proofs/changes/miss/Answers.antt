use Rattle.std.proofs.Common.{refl, ap}
use Rattle.shared_pool.specs.Fits.Change.{Misses}
use Rattle.shared_pool.proofs.Busies.{fewer-frames}
use Rattle.shared_pool.proofs.changes.miss.Goals as goal

pub give-requires-clause-permitted : goal.give-requires-clause-permitted
give-requires-clause-permitted g c = (c.args.shared, c.requires.out.0, (Misses, (refl, refl, c.requires.answer.1)))

pub returns-clause-missed : goal.returns-clause-missed
returns-clause-missed g c =
    let f = c.requires.out.3 in
    let s = c.args.seat.now in (
      fewer-frames (g.R.PoolRule.fits s.tag.own) s.tag.frames s.tag.passes f.0 c.args.shared.pool c.args.shared.log f.3.framed f.3.listed c.requires.answer.1 f.1 s.note f.2 c.requires.idle.0 c.requires.idle.1,
      (c.args.shared, c.requires.out.1, f.3.framed.frames, (c.requires.answer, ap (λ z. z.gave) c.give.ensures, ap (λ z. z.note) c.give.ensures)),
    )
