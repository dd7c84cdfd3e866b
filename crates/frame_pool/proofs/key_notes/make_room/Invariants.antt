use Rattle.std.proofs.Common.{◌+◌, ◌<◌, length}
use Rattle.std.specs.HashMap.{spare}
use Rattle.frame_pool.specs.Finding.{HasRoom}
use Rattle.frame_pool.proofs.Noted.{AreNotedBelow}
use Rattle.frame_pool.proofs.key_notes.make_room.Given as goal

abbrev pub invariant-loop-frame : goal.invariant-loop-frame
invariant-loop-frame g l = record {
  noted : AreNotedBelow g.K.PartialEq.eq l.census l.frame l.notes;
  room : HasRoom (length l.census) l.notes;
  left : length l.census < spare l.notes + l.frame;
}
