use Rattle.walk_course.proofs.Reading.{read_next, handed_on}
use Rattle.walk_course.proofs.publish.publish_next.Goals as goal

pub step-requires-clause-read : goal.step-requires-clause-read
step-requires-clause-read c = (read_next c.args.cursor.now.seat.tag c.args.work c.args.outcome.now c.requires.read c.requires.fits.of_plan).0

pub publish-requires-clause-words : goal.publish-requires-clause-words
publish-requires-clause-words c =
    let seat = c.args.cursor.now.seat in
    let told = (read_next seat.tag c.args.work c.args.outcome.now c.requires.read c.requires.fits.of_plan).1 in
    (handed_on seat.tag seat.steps seat.length c.step.new.words.items c.as_slice.result.now c.in-Ok.end c.same_end.result c.step.new.self c.as_slice.ensures.value c.same_end.ensures
    (c.in-Ok.ensures.step seat.tag seat.steps seat.length c.requires.course c.requires.fits told)).words_are

pub publish-requires-clause-course : goal.publish-requires-clause-course
publish-requires-clause-course c =
    let seat = c.args.cursor.now.seat in
    let told = (read_next seat.tag c.args.work c.args.outcome.now c.requires.read c.requires.fits.of_plan).1 in
    (handed_on seat.tag seat.steps seat.length c.step.new.words.items c.as_slice.result.now c.in-Ok.end c.same_end.result c.step.new.self c.as_slice.ensures.value c.same_end.ensures
    (c.in-Ok.ensures.step seat.tag seat.steps seat.length c.requires.course c.requires.fits told)).head

pub publish-requires-clause-fits : goal.publish-requires-clause-fits
publish-requires-clause-fits c =
    let seat = c.args.cursor.now.seat in
    let told = (read_next seat.tag c.args.work c.args.outcome.now c.requires.read c.requires.fits.of_plan).1 in
    (handed_on seat.tag seat.steps seat.length c.step.new.words.items c.as_slice.result.now c.in-Ok.end c.same_end.result c.step.new.self c.as_slice.ensures.value c.same_end.ensures
    (c.in-Ok.ensures.step seat.tag seat.steps seat.length c.requires.course c.requires.fits told)).fits
