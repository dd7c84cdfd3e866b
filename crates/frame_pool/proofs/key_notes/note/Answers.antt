use Rattle.frame_pool.proofs.Noted.{noted-given}
use Rattle.frame_pool.proofs.key_notes.note.Goals as goal

pub returns-clause-noted : goal.returns-clause-noted
returns-clause-noted g c = noted-given g.K.PartialEq.eq c.args.census.now c.make_room.new.notes c.make_room.ensures.noted c.args.frame g.met.K.PartialEq.laws c.args.key c.requires.given c.put.new.notes c.put.ensures.noted
