use Rattle.std.proofs.Common.{◌≡◌, ◌+◌, length}
use Rattle.std.specs.List.{All}
use Rattle.std.specs.Vec.{vec_len}
use Rattle.turn_lock.specs.Seats.{fresh}
use Rattle.viewer_session.specs.Sessions.{IsHostOf}
use Rattle.viewer_session.specs.Starts.{IsNewPass}
use Rattle.viewer_session.proofs.start.hand_out.Given as goal

abbrev pub invariant-loop : goal.invariant-loop
invariant-loop l = record {
  many : vec_len l.passes ≡ l.counter;
  own : IsHostOf l.fn.scene l.host;
  count : l.host.tag.passes ≡ l.count;
  next : l.host.next ≡ l.counter;
  numbers : length l.host.note.granted + l.counter ≡ l.count;
  seat : l.seat ≡ fresh l.fn.scene.registry l.fn.scene.tileset tt;
  new : All (IsNewPass l.fn.scene) l.passes.items;
}
