use Rattle.std.proofs.Common.{◌∙◌, ◌+◌, length, refl, sym, arith}
use Rattle.std.proofs.lemmas.Option.{slice_get_within}
use Rattle.frame_pool.proofs.Places.{read-at}
use Rattle.frame_pool.proofs.Noted.{noted-once, below-put, below-keyless, same-get, same-room, same-spare}
use Rattle.frame_pool.proofs.key_notes.make_room.Goals as goal
use Rattle.frame_pool.proofs.key_notes.make_room.Goals.{in-Some, in_default}

pub loop-frame-preserved : goal.loop-frame-preserved
loop-frame-preserved g c =
    let here = c.index-census-frame.result in
    let i = c.loop-frame.frame in
    let at = read-at c.args.census.now i here here c.loop-frame-test.true c.index-census-frame.is refl in
    let once = noted-once g.K.PartialEq.eq c.args.census.now c.args.notes.now c.requires.noted in
    elim c.match-key.branch [
      | in-Some w ↦ record {
        noted = λ f state key less is has.
            same-get c.match-key.notes w.put.new.notes w.notes-is g.K.PartialEq.eq key
            ∙ below-put g.K.PartialEq.eq c.args.census.now i here at c.loop-frame.notes c.loop-frame.invariant.noted once w.in-Some.key (sym c.key.ensures ∙ w.in-Some.is) w.put.new.notes w.put.ensures.noted f state key less is has;
        room = same-room c.match-key.notes w.put.new.notes w.notes-is (length c.args.census.now) (omega arith);
        left = same-spare c.match-key.notes w.put.new.notes w.notes-is (length c.args.census.now) (i + 1) (omega arith);
      }
      | in_default w ↦ record {
        noted = λ f state key less is has.
            same-get c.match-key.notes c.loop-frame.notes w.notes-is g.K.PartialEq.eq key
            ∙ below-keyless g.K.PartialEq.eq c.args.census.now i here at c.loop-frame.notes c.loop-frame.invariant.noted (sym c.key.ensures ∙ w.in_default.is) f state key less is has;
        room = same-room c.match-key.notes c.loop-frame.notes w.notes-is (length c.args.census.now) c.loop-frame.invariant.room;
        left = same-spare c.match-key.notes c.loop-frame.notes w.notes-is (length c.args.census.now) (i + 1) (omega arith);
      }
    ]

pub returns-clause-noted : goal.returns-clause-noted
returns-clause-noted g c f state key at has =
    let inside = slice_get_within c.args.census.now f state at in
    c.loop-frame.invariant.noted f state key (omega arith) at has
