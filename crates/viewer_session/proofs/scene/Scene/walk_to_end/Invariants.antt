use Rattle.std.proofs.Common.{◌≡◌}
use Rattle.viewer_session.specs.Sessions.{IsPassOf, IsCursorOf, IsSameWalk, tag_in}
use Rattle.viewer_session.specs.Advances.{HasRead}
use Rattle.viewer_session.proofs.scene.Scene.walk_to_end.Given as goal

abbrev pub invariant-loop : goal.invariant-loop
invariant-loop g l = record {
  cursor : IsCursorOf l.self l.cursor;
  walk : IsSameWalk l.fn.cursor l.cursor;
  pass : IsPassOf l.self l.pass;
  same : l.pass ≡ record l.fn.pass { frames = l.pass.frames };
  number : l.pass.frames.number ≡ l.fn.pass.frames.number;
  busies : l.pass.frames.note.busies ≡ l.fn.pass.frames.note.busies;
  sure : g.S.FileSource.faults l.files ≡ g.S.FileSource.faults l.fn.files;
  read : HasRead (tag_in l.self l.fn.cursor.plan) l.fn.pass.frames l.pass.frames (g.S.FileSource.fetches l.fn.files) (g.S.FileSource.fetches l.files);
  told : g.S.FileSource.told l.files ≡ g.S.FileSource.told l.fn.files;
}
