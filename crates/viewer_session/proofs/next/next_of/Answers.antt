use Rattle.std.proofs.Common.{refl}
use Rattle.viewer_session.proofs.NextSteps.{is_step}
use Rattle.viewer_session.proofs.next.next_of.Goals as goal

pub returns-in-Some-clause-next : goal.returns-in-Some-clause-next
returns-in-Some-clause-next c =
    let seat = c.args.cursor.now.seat in (
      refl,
      is_step seat c.args.work c.in-Some.key c.requires.out c.requires.course c.requires.fits c.in-Some.ensures.key c.in-Some.ensures.going
          (c.in-Some.ensures.root seat.tag seat.steps seat.length seat.end c.requires.fits),
    )
